-- What layouts write: one after another, with faults told otherwise, and a field that is checked. Assumes nothing.
use Rattle.std.proofs.Common.{◌≡◌, ℕ, ◌+◌, ◌^◌, ◌<◌, Bool, true, false, cond, List, [], ◌∷◌, ◌++◌, ℤ, sym, refl, ap, ◌∙◌, subst, arith}
use Rattle.std.proofs.lemmas.List.{append_assoc, append-nil}
use Rattle.network.specs.declared.refusal.Refusal.{Refusal}
use Rattle.layout.specs.declared.bounds.Bounds.{Bounds}
use Rattle.layout.specs.declared.faults.ByteFault.{ByteFault}
use Rattle.layout.specs.Faults.{fault}
use Rattle.layout.specs.Layouts.{Layout, gives, fails, field, then, told, checked}
use Rattle.layout.specs.Numbers.{signed, within, number_in}
use Rattle.layout.specs.Writing.{bytes_of, Lays, no_field, one_field}

pub gives_laid : {F A : Type 0} (x : A) (p : ℕ) (bytes : List ℕ) (a : A) → Lays {F = F} (gives x) p bytes a → (bytes ≡ []) × (a ≡ x)
gives_laid x p _ _ no_field = (refl, refl)

pub fails_laid : {F A : Type 0} (f : F) (p : ℕ) (bytes : List ℕ) (a : A) → Lays (fails f) p bytes a → ⊥
fails_laid f p bytes a t = elim t [ ]

-- ---- one layout after another: where the second begins does not matter

pub then_lays :
    {F A B : Type 0} (l : Layout F A) (more : A → Layout F B) (p : ℕ) (u v : List ℕ) (a : A) (b : B)
    → Lays l p u a → ((q : ℕ) → Lays (more a) q v b) → Lays (then l more) p (u ++ v) b
unfolding then
then_lays (gives x) more p _ v _ b no_field k = k p
then_lays (fails f) more p u v a b t k = elim t [ ]
then_lays (field w short next) more p _ v a b (one_field {rest = rest} x h t) k =
    subst (λ y. Lays (then (field w short next) more) p y b) (sym (append_assoc (bytes_of w x) rest v))
    (one_field x h (then_lays (next p x) more (p + w) rest v a b t k))

-- what both wrote
pub record Both {F A B : Type 0} (l : Layout F A) (more : A → Layout F B) (p : ℕ) (bytes : List ℕ) (b : B) : Type 0 where
  pub given : A
  pub front : List ℕ
  pub back : List ℕ
  pub at : ℕ
  pub first : Lays l p front given
  pub second : Lays (more given) at back b
  pub whole : bytes ≡ front ++ back

pub then_laid :
    {F A B : Type 0} (l : Layout F A) (more : A → Layout F B) (p : ℕ) (bytes : List ℕ) (b : B)
    → Lays (then l more) p bytes b → Both l more p bytes b
unfolding then
then_laid (gives x) more p bytes b t = record { given = x; front = []; back = bytes; at = p; first = no_field; second = t; whole = refl }
then_laid (fails f) more p bytes b t = elim t [ ]
then_laid (field w short next) more p _ b (one_field {rest = rest} v h t) =
    let i = then_laid (next p v) more (p + w) rest b t in
    record {
      given = i.given;
      front = bytes_of w v ++ i.front;
      back = i.back;
      at = i.at;
      first = one_field v h i.first;
      second = i.second;
      whole = ap (λ x. bytes_of w v ++ x) i.whole ∙ sym (append_assoc (bytes_of w v) i.front i.back);
    }

-- ---- faults told otherwise

pub told_lays : {F G A : Type 0} (g : F → G) (l : Layout F A) (p : ℕ) (bytes : List ℕ) (a : A) → Lays l p bytes a → Lays (told g l) p bytes a
unfolding told
told_lays g (gives x) p _ _ no_field = no_field
told_lays g (fails f) p bytes a t = elim t [ ]
told_lays g (field w short next) p _ a (one_field {rest = rest} v h t) = one_field v h (told_lays g (next p v) (p + w) rest a t)

pub told_laid : {F G A : Type 0} (g : F → G) (l : Layout F A) (p : ℕ) (bytes : List ℕ) (a : A) → Lays (told g l) p bytes a → Lays l p bytes a
unfolding told
told_laid g (gives x) p _ _ no_field = no_field
told_laid g (fails f) p bytes a t = elim t [ ]
told_laid g (field w short next) p _ a (one_field {rest = rest} v h t) = one_field v h (told_laid g (next p v) (p + w) rest a t)

-- ---- a field that is checked

-- a number or its fault
pub decided_laid :
    {A : Type 0} (b : Bool) (x : A) (f : ByteFault) (p : ℕ) (bytes : List ℕ) (a : A) → Lays (cond b (gives x) (fails f)) p bytes a
    → (b ≡ true) × (bytes ≡ []) × (a ≡ x)
decided_laid true x f p _ _ no_field = (refl, refl, refl)
decided_laid false x f p bytes a t = elim t [ ]

pub decided_lays : {A : Type 0} (b : Bool) (x : A) (f : ByteFault) (p : ℕ) → b ≡ true → Lays (cond b (gives x) (fails f)) p [] x
decided_lays b x f p e = rw e no_field

module _ (w : ℕ) (e : Refusal) (ok : ℕ → Bool) (p : ℕ) where
  pub checked_lays : (v : ℕ) → v < 256 ^ w → ok v ≡ true → Lays (checked w e ok) p (bytes_of w v) v
  unfolding checked
  checked_lays v h t =
      subst (λ y. Lays (checked w e ok) p y v) (append-nil (bytes_of w v)) (one_field v h (decided_lays (ok v) v (fault e p) (p + w) t))

  pub checked_laid : (bytes : List ℕ) (v : ℕ) → Lays (checked w e ok) p bytes v → (v < 256 ^ w) × (ok v ≡ true) × (bytes ≡ bytes_of w v)
  unfolding checked
  checked_laid _ v (one_field {rest = rest} x h t) =
      let d = decided_laid (ok x) x (fault e p) (p + w) rest v t in
      let s = d.2 in
      let r = d.1 in
      (rw s h, rw s d.0, rw (s, r) (append-nil (bytes_of w x)))

-- a field of one byte
pub one_byte : (v : ℕ) → v < 256 → bytes_of 1 v ≡ v ∷ []
unfolding bytes_of
one_byte v h = ap (λ x. x ∷ []) (omega arith)

-- ---- a number within bounds

module _ (b : Bounds) (e : Refusal) (p : ℕ) where
  pub number_lays : (v : ℕ) → v < 256 ^ 4 → within b (signed v) ≡ true → Lays (number_in b e) p (bytes_of 4 v) (signed v)
  unfolding number_in
  number_lays v h t =
      subst (λ y. Lays (number_in b e) p y (signed v)) (append-nil (bytes_of 4 v))
      (one_field v h (decided_lays (within b (signed v)) (signed v) (fault e p) (p + 4) t))

  pub number_laid :
      (bytes : List ℕ) (z : ℤ) → Lays (number_in b e) p bytes z
      → (v : ℕ) × (v < 256 ^ 4) × (within b (signed v) ≡ true) × (bytes ≡ bytes_of 4 v) × (z ≡ signed v)
  unfolding number_in
  number_laid _ z (one_field {rest = rest} v h t) =
      let d = decided_laid (within b (signed v)) (signed v) (fault e p) (p + 4) rest z t in
      let r = d.1 in
      (v, h, d.0, rw r (append-nil (bytes_of 4 v)), d.2)
