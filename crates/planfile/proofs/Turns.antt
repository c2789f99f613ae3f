-- One turn of the loop over a row's bits. Assumes nothing.
use Rattle.std.proofs.Common.{◌≡◌, ℕ, suc, ◌+◌, ◌/◌, ◌^◌, ◌<◌, ◌≤◌, List, [], ◌∷◌, ◌++◌, length, take, drop, set, replicate, ℤ, Some, None, Option, sym, ap, ◌∙◌, subst, arith}
use Rattle.std.specs.List.{refill}
use lib.Count.{count_trailing_zeros}
use Rattle.std.proofs.lemmas.List.{append_assoc, length-append, length-replicate, length-set, set_at, replicate-append-replicate}
use Rattle.std.proofs.Math.Seq.{take-append_seam}
use Rattle.network.specs.declared.refusal.Refusal.TheVariants.{Coefficient}
use Rattle.layout.specs.declared.bounds.Bounds.{Bounds}
use Rattle.layout.specs.Layouts.{then}
use Rattle.layout.specs.Numbers.{number_in}
use Rattle.planfile.specs.Rows.{cells}
use Rattle.planfile.proofs.Bits.{Next, next_bit, cells_some}

-- a row whose first cells are `done` and whose k others are empty
abbrev pub Partly : List (Option ℤ) → List (Option ℤ) → ℕ → Type 0
Partly row done k = row ≡ done ++ replicate k None

row_size : (row done : List (Option ℤ)) (k : ℕ) → Partly row done k → length row ≡ length done + k
row_size row done k e = ap length e ∙ length-append done (replicate k None) ∙ ap (λ x. length done + x) (length-replicate k None)

-- a cell that is written through the row's slice
pub written : (row : List (Option ℤ)) (at : ℕ) (c : Option ℤ) → refill (length row) row (set row at c) ≡ set row at c
written row at c =
    ap (λ n. take n (set row at c ++ drop (length (set row at c)) row)) (sym (length-set row at c)) ∙ take-append_seam (set row at c) (drop (length (set row at c)) row)

-- the loop between two turns: `done` are the cells of the benches passed, and k benches are left, by the bits of `rest`
pub record Turn (row : List (Option ℤ)) (bench rest : ℕ) : Type 0 where
  pub done : List (Option ℤ)
  pub k : ℕ
  pub shape : Partly row done k
  pub len : length done ≡ bench
  pub bits : rest < 2 ^ k

-- z bits come before the first that stands
module _ (b : Bounds) (row : List (Option ℤ)) (bench rest z : ℕ) (t : Turn row bench rest) (few : length row ≤ 32) (some : rest ≡ 0 → ⊥)
    (gap : z ≡ count_trailing_zeros 32 rest) where
  pub bit : Next b t.k rest t.done z
  bit = subst (λ x. Next b t.k rest t.done x) (sym gap) (next_bit b 32 t.k rest t.done (omega arith) t.bits (omega (arith, row_size row t.done t.k t.shape)))

  pub place : bench + z < length row
  place = omega (arith, row_size row t.done t.k t.shape, bit.1, t.len)

  -- the cells after this turn
  abbrev more : ℤ → List (Option ℤ)
  more a = (t.done ++ replicate (z) None) ++ Some a ∷ []

  size : length (t.done ++ replicate (z) None) ≡ bench + z
  size = length-append t.done (replicate (z) None) ∙ ap (λ x. length t.done + x) (length-replicate _ _) ∙ ap (λ x. x + z) t.len

  pub more_size : (a : ℤ) → length (more a) ≡ bench + z + 1
  more_size a = length-append (t.done ++ replicate (z) None) (Some a ∷ []) ∙ ap (λ x. x + 1) size

  pub more_row : (a : ℤ) → Partly (set row (bench + z) (Some a)) (more a) bit.0
  more_row a =
      let j = bit.0 in
      let split : t.done ++ replicate t.k None ≡ (t.done ++ replicate z None) ++ None ∷ replicate j None =
      ap (λ x. t.done ++ replicate x None) bit.1
      ∙ ap (λ x. t.done ++ x) (sym (replicate-append-replicate z (suc j) None))
      ∙ sym (append_assoc t.done (replicate z None) (replicate (suc j) None)) in
      ap (λ x. set x (bench + z) (Some a)) (t.shape ∙ split)
      ∙ set_at (t.done ++ replicate z None) None (replicate j None) (Some a) (bench + z) size
      ∙ sym (append_assoc (t.done ++ replicate z None) (Some a ∷ []) (replicate j None))

  -- the loop after this turn
  abbrev pub turned : (a : ℤ) → Turn (set row (bench + z) (Some a)) (bench + z + 1) (rest / 2 ^ z / 2)
  turned a = record { done = more a; k = bit.0; shape = more_row a; len = more_size a; bits = bit.3 }

  -- what is left begins with the coefficient of the next bit
  pub next : cells b t.k rest t.done ≡ then (number_in b Coefficient) (λ a. cells b (turned a).k (rest / 2 ^ z / 2) (turned a).done)
  next = bit.4 ∙ cells_some b bit.0 _ _ bit.2
