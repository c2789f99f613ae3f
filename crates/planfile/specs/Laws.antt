-- What is promised of reading plan files. Assumes nothing.
use Rattle.std.specs.Prelude.{◌≡◌, ℕ, ◌↔◌, ◌⊎◌, List, Ok, Err}
use Rattle.layout.specs.Faults.{FileFault}
use Rattle.layout.specs.Writing.{Bytes}
use Rattle.planfile.specs.Files.{Description, file_read}
use Rattle.planfile.specs.Documents.{Writes, FirstFault}

-- of every file: it is read to a description exactly when it is that description written down, and refused with a fault exactly
-- when that is its first fault
pub record ReadsWhatIsWritten (file : List ℕ) : Type 0 where
  pub accepted : (p : Description) → (file_read file ≡ Ok p) ↔ Writes file p
  pub refused : (f : FileFault) → (file_read file ≡ Err f) ↔ FirstFault file f
  -- it is one of the two
  pub one : ((p : Description) × Writes file p) ⊎ ((f : FileFault) × FirstFault file f)
  -- and never both; nor is it two descriptions written down, nor has it two first faults
  pub not_both : (p : Description) (f : FileFault) → Writes file p → FirstFault file f → ⊥
  pub one_description : (p q : Description) → Writes file p → Writes file q → p ≡ q
  pub one_fault : (f g : FileFault) → FirstFault file f → FirstFault file g → f ≡ g

abbrev pub PlanFiles : Type 0
PlanFiles = (file : List ℕ) → Bytes file → ReadsWhatIsWritten file
