-- A list that is rewritten in place, and a sum, turn by turn. Assumes nothing.
use Rattle.std.proofs.Common.{◌≡◌, ℕ, ◌+◌, ◌<◌, ◌≤◌, List, [], ◌∷◌, map, length, get_or, take, drop, set, ℤ, pos, ◌+ℤ◌, ◌-ℤ◌, sym, refl, ap, subst, ◌∙◌, ap₂, arith}
use Rattle.std.proofs.lemmas.Int.{ints}
use Rattle.std.proofs.lemmas.List.{at_drop_more, at_drop_all}
use native.Mathlib.Numerals.{unary_clauses}
use Rattle.std.specs.List.{AllZip}
use Rattle.std.proofs.lemmas.List.{length-set, drop-set-lt, take_more_set, get_or-drop, get_or_default}
use Rattle.std.proofs.lemmas.Grind.{drop_more_same}
use Rattle.std.proofs.lemmas.List.Elements.{all_zip_more}
use Rattle.model.specs.declared.bench.Bench.{Bench}
use Rattle.model.specs.Plans.{spare}
use Rattle.model.specs.Calls.{no_bench}

-- one place more of a list whose elements are rewritten in their order
pub rewrite_more : {A : Type 0} (R : A → A → Type 0) (xs ys : List A) (i : ℕ) (d y : A) → i < length xs → length ys ≡ length xs →
    drop i ys ≡ drop i xs → AllZip R (take i xs) (take i ys) → R (get_or ys i d) y →
    (length (set ys i y) ≡ length xs) × (drop (i + 1) (set ys i y) ≡ drop (i + 1) xs) × AllZip R (take (i + 1) xs) (take (i + 1) (set ys i y))
rewrite_more {A} R xs ys i d y h e same inv r =
    let here : get_or ys i d ≡ get_or xs i d = simp unary_clauses at (sym (get_or-drop i ys 0 d) ∙ ap (λ (zs : List A). get_or zs 0 d) same ∙ get_or-drop i xs 0 d) in
    let x = get_or xs i d in
    let l : i < length ys = omega arith in (
      length-set ys i y ∙ e,
      drop-set-lt (i + 1) ys i y (omega arith) ∙ drop_more_same ys xs i same,
      subst (AllZip R (take (i + 1) xs)) (sym (take_more_set ys i y l))
          (all_zip_more R xs (take i ys) i x y h (get_or_default xs i d x h) inv (subst (λ (z : A). R z y) here r)),
    )

-- the whole list, where each element became what f makes of it
pub made : {A : Type 0} (R : A → A → Type 0) (f : A → A) → ((x y : A) → R x y → y ≡ f x) → (xs ys : List A) → AllZip R xs ys → ys ≡ map f xs
made R f h [] [] z = refl
made R f h [] (y ∷ ys) z = absurd z
made R f h (x ∷ xs) [] z = absurd z
made R f h (x ∷ xs) (y ∷ ys) z = ap₂ ◌∷◌ (h x y z.0) (made R f h xs ys z.1)

-- ---- a sum

add_on : (s d r w : ℤ) → s +ℤ (d +ℤ r) ≡ w → (s +ℤ d) +ℤ r ≡ w
add_on s d r w e = omega (arith, ints)

pub spare_more : (rows : List Bench) (i : ℕ) (sum : ℤ) → i < length rows → sum +ℤ spare (drop i rows) ≡ spare rows →
    (sum +ℤ ((get_or rows i no_bench).start -ℤ (get_or rows i no_bench).floor)) +ℤ spare (drop (i + 1) rows) ≡ spare rows
spare_more rows i sum l inv =
    add_on sum ((get_or rows i no_bench).start -ℤ (get_or rows i no_bench).floor) (spare (drop (i + 1) rows)) (spare rows) (ap (λ (z : ℤ). sum +ℤ z) (sym (at_drop_more spare rows i no_bench l)) ∙ inv)

add_no_bench : (s w : ℤ) → s +ℤ pos 0 ≡ w → s ≡ w
add_no_bench s w e = omega (arith, ints)

pub spare_all : (rows : List Bench) (i : ℕ) (sum : ℤ) → length rows ≤ i → sum +ℤ spare (drop i rows) ≡ spare rows → sum ≡ spare rows
spare_all rows i sum l inv = add_no_bench sum (spare rows) (ap (λ (z : ℤ). sum +ℤ z) (sym (at_drop_all spare rows i l)) ∙ inv)
