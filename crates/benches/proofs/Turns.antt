-- The loops over bench records, turn by turn. Assumes nothing.
use Rattle.std.proofs.Common.{◌≡◌, ℕ, zero, suc, ◌+◌, ◌<◌, Bool, true, false, cond, List, [], ◌∷◌, length, get_or, take, set, ℤ, pos, sym, refl, ap, ◌∙◌, subst, add-one, arith}
use lib.Signed.{lt_z}
use Rattle.std.specs.Int.{int_min}
use Rattle.std.proofs.lemmas.Int.{ints}
use Rattle.std.specs.Ordering.{int_eq}
use Rattle.std.proofs.lemmas.Bool.{and_left, and_right, false_from_ne_true}
use Rattle.std.proofs.lemmas.Bool.Decides.{Decides-int_eq}
use Rattle.model.specs.declared.bench.Bench.{Bench}
use Rattle.model.specs.Plans.{same_list}
use Rattle.model.specs.Plans.{starts, cut}
use Rattle.model.specs.Calls.{no_bench}
use Rattle.model.proofs.Order.{same_list_same}

-- ---- cut

same_number_apart : (a b : ℤ) → (a ≡ b → ⊥) → int_eq a b ≡ false
same_number_apart a b h = false_from_ne_true (int_eq a b) (λ e. h ((Decides-int_eq a b).0 e))

below_apart : (a b : ℤ) → lt_z b a ≡ true → a ≡ b → ⊥
below_apart a b t e = grind (arith, ints)

cond_of : {A : Type 0} (b : Bool) (x y : A) → b ≡ true → cond b x y ≡ x
cond_of {A} b x y e = ap (λ (c : Bool). cond c x y) e

cond_not : {A : Type 0} (b : Bool) (x y : A) → b ≡ false → cond b x y ≡ y
cond_not {A} b x y e = ap (λ (c : Bool). cond c x y) e

abbrev pub lowered : Bench → ℤ → Bench
lowered b v = record { floor = b.floor; ceiling = b.ceiling; start = v }

-- a turn in which a start falls
cut_falls : (es : List Bench) (vs : List ℤ) (i : ℕ) → length es ≡ length vs → i < length es →
    lt_z (get_or vs i (pos 0)) (get_or (cut es (take i vs)) i no_bench).start ≡ true →
    (set (cut es (take i vs)) i (lowered (get_or (cut es (take i vs)) i no_bench) (get_or vs i (pos 0))) ≡ cut es (take (suc i) vs)) × (false ≡ same_list (starts es) (starts (cut es (take (suc i) vs))))
cut_falls [] vs i e l t = absurd (omega arith)
cut_falls (b ∷ es) [] i e l t = absurd (omega arith)
cut_falls (b ∷ es) (v ∷ vs) zero e l t =
    let m : int_min b.start v ≡ v = cond_of (lt_z v b.start) v b.start t in (
      ap (λ (z : ℤ). lowered b z ∷ es) (sym m) ∙ ap (λ (r : List Bench). lowered b (int_min b.start v) ∷ r) (sym (cut_nil es)),
      sym (and_left (int_eq b.start (int_min b.start v)) (same_list (starts es) (starts (cut es []))) (ap (int_eq b.start) m ∙ same_number_apart b.start v (below_apart b.start v t))),
    )
  where
    cut_nil : (bs : List Bench) → cut bs [] ≡ bs
    cut_nil [] = refl
    cut_nil (b ∷ bs) = refl
cut_falls (b ∷ es) (v ∷ vs) (suc i) e l t =
    let r = cut_falls es vs i (omega arith) (omega arith) t in (
      ap (λ (z : List Bench). lowered b (int_min b.start v) ∷ z) r.0,
      sym (and_right (int_eq b.start (int_min b.start v)) (same_list (starts es) (starts (cut es (take (suc i) vs)))) (sym r.1)),
    )

cut_stays : (es : List Bench) (vs : List ℤ) (i : ℕ) → length es ≡ length vs → i < length es →
    lt_z (get_or vs i (pos 0)) (get_or (cut es (take i vs)) i no_bench).start ≡ false → cut es (take i vs) ≡ cut es (take (suc i) vs)
cut_stays [] vs i e l t = absurd (omega arith)
cut_stays (b ∷ es) [] i e l t = absurd (omega arith)
cut_stays (b ∷ es) (v ∷ vs) zero e l t =
    let m : int_min b.start v ≡ b.start = cond_not (lt_z v b.start) v b.start t in
    ap (λ (z : ℤ). lowered b z ∷ es) (sym m) ∙ ap (λ (r : List Bench). lowered b (int_min b.start v) ∷ r) (sym (cut_nil es))
  where
    cut_nil : (bs : List Bench) → cut bs [] ≡ bs
    cut_nil [] = refl
    cut_nil (b ∷ bs) = refl
cut_stays (b ∷ es) (v ∷ vs) (suc i) e l t = ap (λ (z : List Bench). lowered b (int_min b.start v) ∷ z) (cut_stays es vs i (omega arith) (omega arith) t)

-- the same as the loop has them
pub cut_start : (es : List Bench) → (es ≡ cut es []) × (true ≡ same_list (starts es) (starts es))
cut_start [] = (refl, refl)
cut_start (b ∷ es) = (refl, sym (same_list_same (starts (b ∷ es))))

pub cut_fell : (es rows after : List Bench) (vs : List ℤ) (i : ℕ) → length es ≡ length vs → i < length es → rows ≡ cut es (take i vs) →
    lt_z (get_or vs i (pos 0)) (get_or rows i no_bench).start ≡ true → after ≡ set rows i (lowered (get_or rows i no_bench) (get_or vs i (pos 0))) →
    (after ≡ cut es (take (i + 1) vs)) × (false ≡ same_list (starts es) (starts after))
cut_fell es rows after vs i e l inv t a =
    let r = cut_falls es vs i e l (subst (λ (z : List Bench). lt_z (get_or vs i (pos 0)) (get_or z i no_bench).start ≡ true) inv t) in
    let done : after ≡ cut es (take (i + 1) vs) = a ∙ ap (λ (z : List Bench). set z i (lowered (get_or z i no_bench) (get_or vs i (pos 0)))) inv ∙ r.0 ∙ ap (λ n. cut es (take n vs)) (sym (add-one i)) in
    (done, r.1 ∙ ap (λ n. same_list (starts es) (starts (cut es (take n vs)))) (sym (add-one i)) ∙ ap (λ (z : List Bench). same_list (starts es) (starts z)) (sym done))

pub cut_stayed : (es rows after : List Bench) (vs : List ℤ) (i : ℕ) (rests : Bool) → length es ≡ length vs → i < length es → rows ≡ cut es (take i vs) → rests ≡ same_list (starts es) (starts rows) →
    lt_z (get_or vs i (pos 0)) (get_or rows i no_bench).start ≡ false → after ≡ rows →
    (after ≡ cut es (take (i + 1) vs)) × (rests ≡ same_list (starts es) (starts after))
cut_stayed es rows after vs i rests e l inv was t a =
    let r = cut_stays es vs i e l (subst (λ (z : List Bench). lt_z (get_or vs i (pos 0)) (get_or z i no_bench).start ≡ false) inv t) in
    (a ∙ inv ∙ r ∙ ap (λ n. cut es (take n vs)) (sym (add-one i)), was ∙ ap (λ (z : List Bench). same_list (starts es) (starts z)) (sym a))
