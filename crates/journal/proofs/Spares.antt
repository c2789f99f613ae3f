-- Two lists of the same starts are the same value. Assumes nothing.
use Rattle.std.proofs.Common.{◌≡◌, ℕ, ◌-◌, ◌≤◌, List, ◌++◌, length, drop, replicate, ℤ, pos, sym, ap, ap₂, ◌∙◌, subst}
use mathlib.Core.HLevel.{is_prop→PathP}
use Rattle.std.proofs.Math.Nat.{ℕ_set}
use Rattle.std.proofs.lemmas.List.{take-append-drop, length-take-le}
use Rattle.std.specs.Coded.{Coded-set, coded_list, coded_ℤ, le_prop}
use Rattle.journal.specs.declared.start_list.StartList.{StartList}
use Rattle.journal.specs.Starts.{starts_in}

pub same_starts : (a b : StartList) → starts_in a ≡ starts_in b → a ≡ b
same_starts a b e = λ i. record {
  places = l i;
  count = n i;
  few = is_prop→PathP (λ j. n j ≤ 32) (λ j. le_prop) a.few b.few i;
  full = is_prop→PathP (λ j. length (l j) ≡ 32) (λ j. ℕ_set _ _) a.full b.full i;
  spare = is_prop→PathP (λ j. drop (n j) (l j) ≡ replicate (32 - n j) (pos 0)) (λ j. Coded-set (coded_list coded_ℤ) _ _) a.spare b.spare i;
}
  where
    counted : (s : StartList) → length (starts_in s) ≡ s.count
    counted s = length-take-le s.count s.places (subst (λ (k : ℕ). s.count ≤ k) (sym s.full) s.few)

    whole : (s : StartList) → starts_in s ++ replicate (32 - s.count) (pos 0) ≡ s.places
    whole s = ap (λ (zs : List ℤ). starts_in s ++ zs) (sym s.spare) ∙ take-append-drop s.count s.places

    n : a.count ≡ b.count
    n = sym (counted a) ∙ ap length e ∙ counted b

    l : a.places ≡ b.places
    l = sym (whole a) ∙ ap₂ (λ (xs : List ℤ) (k : ℕ). xs ++ replicate (32 - k) (pos 0)) e n ∙ whole b
