-- Calls that read layouts one after another. Assumes nothing.
use Rattle.std.proofs.Common.{◌≡◌, ℕ, List, IsErrAnd, Ok, Err, Result, sym, refl, ap, ◌∙◌, arith}
use Rattle.std.specs.Result.{result_map_both}
use Rattle.network.specs.declared.refusal.Refusal.TheVariants.{Ends}
use Rattle.layout.specs.declared.cursor.Cursor.{Cursor}
use Rattle.layout.specs.declared.faults.ByteFault.{ByteFault}
use Rattle.layout.specs.Faults.{fault}
use Rattle.layout.specs.Layouts.{Layout, gives, fails, field, reached, refused, reads, then, told, number}
use Rattle.layout.specs.Reading.{outcome, Reads}
use Rattle.layout.proofs.Outcomes.{goes_on, stops, retold, reads_told, reads_gives, reads_fails, field_ok, field_err}

-- of the layout l, read from c, the layout m is left at c'
pub record Left {F A : Type 0} (l : Layout F A) (c : Cursor) (m : Layout F A) (c' : Cursor) : Type 0 where
  pub same : c'.bytes.now ≡ c.bytes.now
  pub rest : reads m c.bytes.now c'.at ≡ reads l c.bytes.now c.at

pub left_all : {F A : Type 0} (l : Layout F A) (c : Cursor) → Left l c l c
left_all l c = record { same = refl; rest = refl }

-- what is left is the layout n
pub left_as : {F A : Type 0} {l m n : Layout F A} {c c' : Cursor} → m ≡ n → Left l c m c' → Left l c n c'
left_as {c = c} {c' = c'} e h = record { same = h.same; rest = ap (λ z. reads z c.bytes.now c'.at) (sym e) ∙ h.rest }

-- a `?` hands a fault on as it is
handed_on : {F A X : Type 0} (view : X → A) (r : Result X F) (q : ℕ) (f : F) → IsErrAnd r (λ y. y ≡ f) → outcome view r q ≡ refused f
handed_on view (Ok x) q f h = absurd h
handed_on view (Err y) q f h = ap refused h

-- ---- the end of a layout

module _ {F A X : Type 0} {l : Layout F A} {c c' : Cursor} {view : X → A} where
  pub read_all : {a : A} (x : X) → view x ≡ a → Left l c (gives a) c' → Reads l c c' view (Ok x)
  read_all x e h = record { same = h.same; comes = ap (λ y. reached y c'.at) e ∙ sym (reads_gives _ _ _) ∙ h.rest }

  pub read_fault : {f : F} → Left l c (fails f) c' → Reads l c c' view (Err f)
  read_fault h = record { same = h.same; comes = sym (reads_fails _ _ _) ∙ h.rest }

-- ---- one layout after another

module _ {F A B X : Type 0} {l : Layout F B} {m : Layout F A} (more : A → Layout F B) {c c' c'' : Cursor} {view : X → A} where
  -- the next call finds a fault
  pub left_fault : {Y : Type 0} {view' : Y → B} {r : Result Y F} (f : F) → Left l c (then m more) c' → Reads m c' c'' view (Err f) → IsErrAnd r (λ y. y ≡ f) →
      Reads l c c'' view' r
  left_fault {view' = view'} {r = r} f h k e = record {
    same = k.same ∙ h.same;
    comes = handed_on view' r c''.at f e
        ∙ sym (stops m more c.bytes.now c'.at f (k.comes ∙ ap (λ z. reads m z c'.at) h.same))
        ∙ h.rest;
  }

  -- the next call gives a value
  pub left_more : (x : X) → Left l c (then m more) c' → Reads m c' c'' view (Ok x) → Left l c (more (view x)) c''
  left_more x h k = record {
    same = k.same ∙ h.same;
    rest = sym (goes_on m more c.bytes.now c'.at (view x) c''.at (k.comes ∙ ap (λ z. reads m z c'.at) h.same)) ∙ h.rest;
  }

-- the next call reads all that is left
pub left_last : {F A X : Type 0} {l m : Layout F A} {c c' c'' : Cursor} {view : X → A} {r : Result X F} → Left l c m c' → Reads m c' c'' view r → Reads l c c'' view r
left_last {m = m} {c' = c'} h k = record {
  same = k.same ∙ h.same;
  comes = k.comes ∙ ap (λ z. reads m z c'.at) h.same ∙ h.rest;
}

-- the next call reads all that is left, and its answer is handed on in another form
module _ {F A X Y : Type 0} {l m : Layout F A} {c c' c'' : Cursor} {view : X → A} {view' : Y → A} where
  pub last_fault : {r : Result Y F} (f : F) → Left l c m c' → Reads m c' c'' view (Err f) → IsErrAnd r (λ y. y ≡ f) → Reads l c c'' view' r
  last_fault {r} f h k e = record {
    same = k.same ∙ h.same;
    comes = handed_on view' r c''.at f e ∙ k.comes ∙ ap (λ z. reads m z c'.at) h.same ∙ h.rest;
  }

  pub last_value : (x : X) (y : Y) → view' y ≡ view x → Left l c m c' → Reads m c' c'' view (Ok x) → Reads l c c'' view' (Ok y)
  last_value x y e h k = record {
    same = k.same ∙ h.same;
    comes = ap (λ z. reached z c''.at) e ∙ k.comes ∙ ap (λ z. reads m z c'.at) h.same ∙ h.rest;
  }

-- ---- a field whose number decides how the layout goes on

module _ {A : Type 0} (w : ℕ) (next : ℕ → ℕ → Layout ByteFault A) {c c' : Cursor} where
  pub field_fault : {X : Type 0} {view : X → A} {r : Result X ByteFault} (f : ByteFault) → Reads (number w) c c' (λ v. v) (Err f) → IsErrAnd r (λ y. y ≡ f) →
      Reads (field w (fault Ends) next) c c' view r
  field_fault {view = view} {r = r} f h e = record {
    same = h.same;
    comes = handed_on view r c'.at f e ∙ sym (field_err w _ _ next f h.comes);
  }

  pub field_more : (v : ℕ) → Reads (number w) c c' (λ v. v) (Ok v) → Left (field w (fault Ends) next) c (next c.at v) c'
  field_more v h = record { same = h.same; rest = sym (field_ok w _ _ next v c'.at h.comes) }

-- ---- the same with each fault told otherwise

retold_outcome : {F G A X : Type 0} (g : F → G) (view : X → A) (r : Result X F) (q : ℕ) → outcome view (result_map_both (λ (x : X). x) g r) q ≡ retold g (outcome view r q)
retold_outcome g view (Ok x) q = refl
retold_outcome g view (Err f) q = refl

pub told_reads : {F G A X : Type 0} {l : Layout F A} {c c' : Cursor} {view : X → A} {r : Result X F} {r' : Result X G} (g : F → G) →
    Reads l c c' view r → r' ≡ result_map_both (λ (x : X). x) g r → Reads (told g l) c c' view r'
told_reads {l = l} {c' = c'} {view = view} {r = r} g h e = record {
  same = h.same;
  comes = ap (λ z. outcome view z c'.at) e ∙ retold_outcome g view r c'.at ∙ ap (retold g) h.comes ∙ sym (reads_told g l _ _);
}

-- the same of an outcome at a known offset
pub told_outcome : {F G A X : Type 0} (g : F → G) (l : Layout F A) (file : List ℕ) (p q : ℕ) (view : X → A) (r : Result X F) (r' : Result X G) →
    outcome view r q ≡ reads l file p → r' ≡ result_map_both (λ (x : X). x) g r → outcome view r' q ≡ reads (told g l) file p
told_outcome g l file p q view r r' h e =
    ap (λ z. outcome view z q) e ∙ retold_outcome g view r q ∙ ap (retold g) h ∙ sym (reads_told g l file p)

-- an answer that is no fault was none below
pub kept : {F G X : Type 0} (g : F → G) (r : Result X F) (x : X) → Ok x ≡ result_map_both (λ (y : X). y) g r → r ≡ Ok x
kept g (Ok y) x e = ap Ok (cc)
kept g (Err f) x e = let z : ◌≡◌ {A = ℕ} 0 1 = cc in absurd (omega arith)
