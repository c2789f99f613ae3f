-- Layouts: what a file is made of, field by field, and what comes of reading one. Assumes nothing.
use Rattle.std.specs.Prelude.{ℕ, zero, suc, ◌+◌, ◌*◌, Bool, cond, List, length, nat_le, slice_index}
use Rattle.network.specs.declared.refusal.Refusal.{Refusal}
use Rattle.network.specs.declared.refusal.Refusal.TheVariants.{Ends}
use Rattle.layout.specs.declared.faults.ByteFault.{ByteFault}
use Rattle.layout.specs.Faults.{fault}

-- the number that w bytes make from offset p on, the first byte worth most
unfoldable pub value : List ℕ → ℕ → ℕ → ℕ
value file p zero = 0
value file p (suc w) = value file p w * 256 + slice_index file (p + w)

-- A layout: fields, each read whole before the next one is due, that give an A or fail with an F.
-- `field w short next`: w bytes are due. Where the file ends before them, the fault is `short p`, with the field's offset p; else
-- the layout goes on as `next p v`, where v is the number that the bytes make.
pub data Layout (F A : Type 0) : Type 0 where
  gives : A → Layout F A
  fails : F → Layout F A
  field : ℕ → (ℕ → F) → (ℕ → ℕ → Layout F A) → Layout F A

-- what comes of a layout: it gave a and ended at offset q, or its first fault is f
pub data Outcome (F A : Type 0) : Type 0 where
  reached : A → ℕ → Outcome F A
  refused : F → Outcome F A

-- what comes of a layout that begins at offset p of a file
unfoldable pub reads : {F A : Type 0} → Layout F A → List ℕ → ℕ → Outcome F A
reads (gives a) file p = reached a p
reads (fails f) file p = refused f
reads (field w short next) file p =
    cond (nat_le (p + w) (length file)) (reads (next p (value file p w)) file (p + w)) (refused (short p))

-- one layout after another, which may depend on what the first one gave
unfoldable pub then : {F A B : Type 0} → Layout F A → (A → Layout F B) → Layout F B
then (gives a) more = more a
then (fails f) more = fails f
then (field w short next) more = field w short (λ p v. then (next p v) more)

-- the same layout with each fault f told as `g f`
unfoldable pub told : {F G A : Type 0} → (F → G) → Layout F A → Layout G A
told g (gives a) = gives a
told g (fails f) = fails (g f)
told g (field w short next) = field w (λ p. g (short p)) (λ p v. told g (next p v))

-- a field of w bytes
unfoldable pub number : ℕ → Layout ByteFault ℕ
number w = field w (fault Ends) (λ _ v. gives v)

-- a field of w bytes that is faulty unless `ok` holds of its number
unfoldable pub checked : ℕ → Refusal → (ℕ → Bool) → Layout ByteFault ℕ
checked w e ok = field w (fault Ends) (λ p v. cond (ok v) (gives v) (fails (fault e p)))
