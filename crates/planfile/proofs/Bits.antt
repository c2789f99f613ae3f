-- Bits of a map. Assumes nothing.
use Rattle.std.proofs.Common.{◌≡◌, ℕ, zero, suc, ◌+◌, ◌*◌, ◌/◌, ◌%◌, ◌^◌, ◌<◌, ◌≤◌, Bool, true, false, not, eqb, List, [], ◌∷◌, ◌++◌, replicate, ℤ, Some, None, Option, sym, refl, ap, ◌∙◌, ⊎_elim, pow-suc, one-add, arith, pow_mono}
use lib.Count.{count_trailing_zeros, under}
use Rattle.std.proofs.lemmas.List.{append_assoc, append-nil}
use Rattle.std.proofs.lemmas.Nat.{pow_pos, shr_split, div_below, mod_below, shr-shr}
use Rattle.std.proofs.lemmas.Bool.{cases_lt, eq-eqb, ne_eqb}
use Rattle.std.proofs.lemmas.Bool.Decides.{nat_tests}
use Rattle.network.specs.declared.refusal.Refusal.TheVariants.{Coefficient}
use Rattle.layout.specs.declared.bounds.Bounds.{Bounds}
use Rattle.layout.specs.Layouts.{then, gives}
use Rattle.layout.specs.Numbers.{number_in}
use Rattle.planfile.specs.Rows.{cells}

pub below_pow : (m n : ℕ) → m / 2 ^ n ≡ 0 → m < 2 ^ n
below_pow m n e =
    let s : 0 * 2 ^ n + m % 2 ^ n ≡ m = rw e at (shr_split m n) in omega (arith, mod_below m (2 ^ n) (pow_pos n))

pub none_above : (m k n : ℕ) → m < 2 ^ k → k ≤ n → m / 2 ^ n ≡ 0
none_above m k n h l = omega (arith, div_below m (2 ^ n) 1 (pow_pos n) (omega (arith, pow_mono l)))

pub above_pow : (m n : ℕ) → (m / 2 ^ n ≡ 0 → ⊥) → 2 ^ n ≤ m
above_pow m n h =
    ⊎_elim (λ (l : m < 2 ^ n). absurd (h (omega (arith, div_below m (2 ^ n) 1 (pow_pos n) (omega arith))))) (λ (l : 2 ^ n ≤ m). l) (cases_lt m (2 ^ n))

-- what a test of the bits above says
pub more_bits : (k : ℕ) → true ≡ not (eqb k 0) → k ≡ 0 → ⊥
more_bits k h e = let z : ◌≡◌ {A = Bool} true false = h ∙ ap not (eq-eqb k 0 e) in grind arith

pub no_bits : (k : ℕ) → false ≡ not (eqb k 0) → k ≡ 0
no_bits k h = grind (arith, nat_tests)

halved : (m k : ℕ) → m < 2 ^ suc k → m / 2 < 2 ^ k
halved m k h = omega (arith, pow-suc 2 k)

module _ (b : Bounds) where
  -- a bit that does not stand, and one that does
  pub cells_none : (k m : ℕ) (done : List (Option ℤ)) → m % 2 ≡ 0 → cells b (suc k) m done ≡ cells b k (m / 2) (done ++ None ∷ [])
  unfolding cells
  cells_none k m done e = rw (eq-eqb (m % 2) 0 e)

  pub cells_some :
      (k m : ℕ) (done : List (Option ℤ)) → (m % 2 ≡ 0 → ⊥)
      → cells b (suc k) m done ≡ then (number_in b Coefficient) (λ a. cells b k (m / 2) (done ++ Some a ∷ []))
  unfolding cells
  cells_some k m done e = rw (ne_eqb (m % 2) 0 e)

  -- no bit stands
  pub cells_rest : (k : ℕ) (done : List (Option ℤ)) → cells b k 0 done ≡ gives (done ++ replicate k None)
  unfolding cells
  cells_rest zero done = ap gives (sym (append-nil done))
  cells_rest (suc k) done = cells_rest k (done ++ None ∷ []) ∙ ap gives (append_assoc done (None ∷ []) (replicate k None))

  -- the next bit that stands is at t: k benches are left, j of them after that bit's
  abbrev pub Next : ℕ → ℕ → List (Option ℤ) → ℕ → Type 0
  Next k m done t =
      (j : ℕ) × (k ≡ t + suc j) × (m / 2 ^ t % 2 ≡ 0 → ⊥) × (m / 2 ^ t / 2 < 2 ^ j)
      × (cells b k m done ≡ cells b (suc j) (m / 2 ^ t) (done ++ replicate t None))

  pub next_bit : (w k m : ℕ) (done : List (Option ℤ)) → 0 < m → m < 2 ^ k → k ≤ w → Next k m done (count_trailing_zeros w m)
  unfolding count_trailing_zeros
  next_bit w zero m done p h l = absurd (omega arith)
  next_bit zero (suc k) m done p h l = absurd (omega arith)
  next_bit (suc w) (suc k) m done p h l =
      go (λ q. next_bit w k (m / 2) (done ++ None ∷ []) q (halved m k h) (omega arith)) (m % 2) refl
    where
      go :
          (0 < m / 2 → Next k (m / 2) (done ++ None ∷ []) (count_trailing_zeros w (m / 2)))
          → (d : ℕ) → m % 2 ≡ d → Next (suc k) m done (under d (count_trailing_zeros w (m / 2)))
      go rest zero e =
          let ih = rest (omega arith) in
          let t = count_trailing_zeros w (m / 2) in
          let s : m / 2 / 2 ^ t ≡ m / 2 ^ suc t = shr-shr m 1 t ∙ ap (λ x. m / 2 ^ x) (one-add t) in (
            ih.0,
            omega (arith, ih.1),
            (λ z. ih.2 (rw s z)),
            (rw (← s) ih.3),
            cells_none k m done e ∙ ih.4
                ∙ ap (λ x. cells b (suc ih.0) x ((done ++ None ∷ []) ++ replicate t None)) s
                ∙ ap (cells b (suc ih.0) (m / 2 ^ suc t)) (append_assoc done (None ∷ []) (replicate t None)),
          )
      go rest (suc d) e =
          let s : m / 1 ≡ m = omega arith in (
            k,
            omega arith,
            (λ z. let y : m / 1 % 2 ≡ 0 = z in omega arith),
            (rw s (halved m k h)),
            ap (λ x. cells b (suc k) x done) (sym s) ∙ ap (cells b (suc k) (m / 1)) (sym (append-nil done)),
          )
