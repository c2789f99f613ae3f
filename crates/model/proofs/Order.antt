-- Laws of the order of lists, place by place. Assumes nothing.
use Rattle.std.proofs.Common.{◌≡◌, suc, true, List, [], ◌∷◌, length, ℤ, refl, ap, subst, ap₂}
use Rattle.scale.proofs.Integers.{≤_refl, ≤_trans, ≤_antisym}
use Rattle.network.specs.Lists.{◌≼◌}
use Rattle.std.proofs.lemmas.Slice.Eq.{slice_eq-Decides}
use Rattle.std.proofs.lemmas.Bool.Decides.{Decides-int_eq}
use Rattle.model.specs.Plans.{same_list}

pub ≼_refl : (x : List ℤ) → x ≼ x
≼_refl [] = tt
≼_refl (a ∷ x) = (≤_refl a, ≼_refl x)

pub ≼_trans : (x y z : List ℤ) → x ≼ y → y ≼ z → x ≼ z
≼_trans [] [] z h k = k
≼_trans [] (b ∷ y) z h k = absurd h
≼_trans (a ∷ x) [] z h k = absurd h
≼_trans (a ∷ x) (b ∷ y) [] h k = absurd k
≼_trans (a ∷ x) (b ∷ y) (c ∷ z) h k = (≤_trans a b c h.0 k.0, ≼_trans x y z h.1 k.1)

pub ≼_antisym : (x y : List ℤ) → x ≼ y → y ≼ x → x ≡ y
≼_antisym [] [] h k = refl
≼_antisym [] (b ∷ y) h k = absurd h
≼_antisym (a ∷ x) [] h k = absurd h
≼_antisym (a ∷ x) (b ∷ y) h k = ap₂ ◌∷◌ (≤_antisym a b h.0 k.0) (≼_antisym x y h.1 k.1)

pub ≼_of_eq : (x y : List ℤ) → x ≡ y → x ≼ y
≼_of_eq x y e = subst (λ (z : List ℤ). x ≼ z) e (≼_refl x)

pub ≼-length : (x y : List ℤ) → x ≼ y → length x ≡ length y
≼-length [] [] h = refl
≼-length [] (b ∷ y) h = absurd h
≼-length (a ∷ x) [] h = absurd h
≼-length (a ∷ x) (b ∷ y) h = ap suc (≼-length x y h.1)

pub same_list_true : (x y : List ℤ) → same_list x y ≡ true → x ≡ y
same_list_true x y e = (slice_eq-Decides Decides-int_eq x y (same_list x y) refl).0 e

pub same_list_same : (x : List ℤ) → same_list x x ≡ true
same_list_same x = (slice_eq-Decides Decides-int_eq x x (same_list x x) refl).1 refl
