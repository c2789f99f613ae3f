-- Checks that run in an order, of which the first fault decides. Assumes nothing.
use Rattle.std.specs.Prelude.{◌≡◌, ◌⊎◌, List, [], ◌∷◌, Ok, Err, Result}

-- a fault, and what it is refused with
pub record Check (R : Type 0) : Type 1 where
  pub refusal : R
  pub fault : Type 0

abbrev pub check : {R : Type 0} → R → Type 0 → Check R
check r f = record { refusal = r; fault = f }

pub data Answer (R : Type 0) : Type 0 where
  accepted : Answer R
  refused : R → Answer R

-- the answer of checks that run in the order of the list
abbrev pub Checked : {R : Type 0} → List (Check R) → Answer R → Type 0
Checked [] accepted = Unit {0}
Checked [] (refused r) = ⊥
Checked (c ∷ cs) accepted = (¬ c.fault) × Checked cs accepted
Checked (c ∷ cs) (refused r) = (c.fault × (r ≡ c.refusal)) ⊎ ((¬ c.fault) × Checked cs (refused r))

-- a call that makes something: what is made is `Good`, and an error tells the first fault and is `Kept`
abbrev pub Makes : {R T E : Type 0} → List (Check R) → (E → R) → (T → Type 0) → (E → Type 0) → Result T E → Type 0
Makes cs told Good Kept (Ok t) = Checked cs accepted × Good t
Makes cs told Good Kept (Err e) = Checked cs (refused (told e)) × Kept e
