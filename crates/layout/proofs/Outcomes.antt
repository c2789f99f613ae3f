-- What comes of layouts, read one after another. Assumes nothing.
use Rattle.std.proofs.Common.{◌≡◌, ℕ, ◌+◌, ◌-◌, ◌<◌, ◌≤◌, true, false, leb, List, length, get_or, take, drop, sym, refl, ap, ◌∙◌, ⊎_elim, arith}
use Rattle.std.proofs.lemmas.List.{take_rest, get_or-drop}
use Rattle.std.proofs.lemmas.Bool.{le-leb, lt-leb}
use Rattle.std.proofs.lemmas.Bool.Decides.{leb_tells}
use Rattle.network.specs.declared.refusal.Refusal.TheVariants.{Ends}
use Rattle.layout.specs.declared.faults.ByteFault.{ByteFault}
use Rattle.layout.specs.Faults.{fault}
use Rattle.layout.specs.Layouts.{Outcome, reached, refused, Layout, gives, fails, field, reads, then, told, value, number}

-- an element of `&xs[p..]`
pub rest_at : (xs : List ℕ) (p k : ℕ) → get_or (take (length xs - p) (drop p xs)) k 0 ≡ get_or xs (p + k) 0
rest_at xs p k = ap (λ l. get_or l k 0) (take_rest xs p) ∙ get_or-drop p xs k 0

pub reads_gives : {F A : Type 0} (a : A) (file : List ℕ) (p : ℕ) → reads {F = F} (gives a) file p ≡ reached a p
unfolding reads
reads_gives a file p = refl

pub reads_fails : {F A : Type 0} (f : F) (file : List ℕ) (p : ℕ) → reads {A = A} (fails f) file p ≡ refused f
unfolding reads
reads_fails f file p = refl

module _ {F A : Type 0} (w : ℕ) (short : ℕ → F) (next : ℕ → ℕ → Layout F A) (file : List ℕ) (p : ℕ) where
  -- a field that the file holds whole
  pub reads_whole : p + w ≤ length file → reads (field w short next) file p ≡ reads (next p (value file p w)) file (p + w)
  unfolding reads
  reads_whole h = rw (le-leb _ _ h)

  -- a field that it does not
  pub reads_short : length file < p + w → reads (field w short next) file p ≡ refused (short p)
  unfolding reads
  reads_short h = rw (lt-leb _ _ h)

-- ---- one layout after another

-- what came of the first decides
abbrev on_from : {F A B : Type 0} → (A → Layout F B) → List ℕ → Outcome F A → Outcome F B
on_from more file (reached a q) = reads (more a) file q
on_from more file (refused f) = refused f

reads_then : {F A B : Type 0} (l : Layout F A) (more : A → Layout F B) (file : List ℕ) (p : ℕ) →
    reads (then l more) file p ≡ on_from more file (reads l file p)
unfolding reads then
reads_then (gives a) more file p = refl
reads_then (fails f) more file p = refl
reads_then (field w short next) more file p =
    ⊎_elim
    (λ (h : (leb (p + w) (length file) ≡ true) × (p + w ≤ length file)). rw h.0 (reads_then (next p (value file p w)) more file (p + w)))
    (λ (h : (leb (p + w) (length file) ≡ false) × (length file < p + w)). rw h.0 refl)
    (leb_tells (p + w) (length file))

module _ {F A B : Type 0} (l : Layout F A) (more : A → Layout F B) (file : List ℕ) (p : ℕ) where
  pub goes_on : (a : A) (q : ℕ) → reached a q ≡ reads l file p → reads (then l more) file p ≡ reads (more a) file q
  goes_on a q e = reads_then l more file p ∙ ap (on_from more file) (sym e)

  pub stops : (f : F) → refused f ≡ reads l file p → reads (then l more) file p ≡ refused f
  stops f e = reads_then l more file p ∙ ap (on_from more file) (sym e)

  -- read to the end, the first gave something
  pub then_reached : (b : B) (q : ℕ) → reached b q ≡ reads (then l more) file p →
      (a : A) × (r : ℕ) × (reached a r ≡ reads l file p) × (reached b q ≡ reads (more a) file r)
  then_reached b q e = go (reads l file p) refl
    where
      go : (o : Outcome F A) → o ≡ reads l file p → (a : A) × (r : ℕ) × (reached a r ≡ reads l file p) × (reached b q ≡ reads (more a) file r)
      go (reached a r) h = (a, r, h, e ∙ goes_on a r h)
      go (refused f) h = let z = e ∙ stops f h in let y : ◌≡◌ {A = ℕ} 0 1 = cc in absurd (omega arith)

-- ---- faults told otherwise

abbrev pub retold : {F G A : Type 0} → (F → G) → Outcome F A → Outcome G A
retold g (reached a q) = reached a q
retold g (refused f) = refused (g f)

pub reads_told : {F G A : Type 0} (g : F → G) (l : Layout F A) (file : List ℕ) (p : ℕ) → reads (told g l) file p ≡ retold g (reads l file p)
unfolding reads told
reads_told g (gives a) file p = refl
reads_told g (fails f) file p = refl
reads_told g (field w short next) file p =
    ⊎_elim
    (λ (h : (leb (p + w) (length file) ≡ true) × (p + w ≤ length file)). rw h.0 (reads_told g (next p (value file p w)) file (p + w)))
    (λ (h : (leb (p + w) (length file) ≡ false) × (length file < p + w)). rw h.0 refl)
    (leb_tells (p + w) (length file))

-- ---- a field that is checked, after a call that read it

module _ (w : ℕ) (file : List ℕ) (p : ℕ) where
  pub number_ok : (v q : ℕ) → reached v q ≡ reads (number w) file p → (p + w ≤ length file) × (v ≡ value file p w) × (q ≡ p + w)
  unfolding reads number
  number_ok v q e =
      ⊎_elim
      (λ (h : (leb (p + w) (length file) ≡ true) × (p + w ≤ length file)). (h.1, cc, cc))
      (λ (h : (leb (p + w) (length file) ≡ false) × (length file < p + w)). let z : ◌≡◌ {A = ℕ} 0 1 = cc in omega arith)
      (leb_tells (p + w) (length file))

  pub number_err : (f : ByteFault) → refused f ≡ reads (number w) file p → (length file < p + w) × (f ≡ fault Ends p)
  unfolding reads number
  number_err f e =
      ⊎_elim
      (λ (h : (leb (p + w) (length file) ≡ true) × (p + w ≤ length file)). let z : ◌≡◌ {A = ℕ} 0 1 = cc in absurd (omega arith))
      (λ (h : (leb (p + w) (length file) ≡ false) × (length file < p + w)). (h.1, cc))
      (leb_tells (p + w) (length file))

module _ {A : Type 0} (w : ℕ) (file : List ℕ) (p : ℕ) (next : ℕ → ℕ → Layout ByteFault A) where
  -- a field that goes on by its number, after a call that read the number
  pub field_ok : (v q : ℕ) → reached v q ≡ reads (number w) file p → reads (field w (fault Ends) next) file p ≡ reads (next p v) file q
  field_ok v q e =
      let h = number_ok w file p v q e in
      let s = reads_whole w (fault Ends) next file p h.0 in
      let e1 = h.1 in
      let e2 = h.2 in
      cc

  pub field_err : (f : ByteFault) → refused f ≡ reads (number w) file p → reads (field w (fault Ends) next) file p ≡ refused f
  field_err f e =
      let h = number_err w file p f e in
      let s = reads_short w (fault Ends) next file p h.0 in
      let e1 = h.1 in
      cc
