-- A field that is checked. Assumes nothing.
use Rattle.std.proofs.Common.{◌≡◌, ℕ, ◌+◌, ◌<◌, ◌≤◌, Bool, true, false, cond, leb, List, length, IsErrAnd, Ok, Err, Result, sym, refl, ap, ◌∙◌, subst, ⊎_elim, arith}
use Rattle.std.proofs.lemmas.Bool.{cases_Bool}
use Rattle.std.proofs.lemmas.Bool.Decides.{leb_tells}
use Rattle.network.specs.declared.refusal.Refusal.{Refusal}
use Rattle.network.specs.declared.refusal.Refusal.TheVariants.{Ends}
use Rattle.layout.specs.declared.cursor.Cursor.{Cursor}
use Rattle.layout.specs.declared.faults.ByteFault.{ByteFault}
use Rattle.layout.specs.Faults.{fault}
use Rattle.layout.specs.Layouts.{Layout, gives, fails, Outcome, reached, refused, reads, value, number, checked}
use Rattle.layout.specs.Reading.{Reads}
use Rattle.layout.proofs.Steps.{Left, read_all, read_fault, field_fault, field_more}

pub decides : {A : Type 0} {l : Layout ByteFault A} {c c' : Cursor} (b : Bool) (z : A) (f : ByteFault) {r : Result A ByteFault} →
    Left l c (cond b (gives z) (fails f)) c' → r ≡ cond b (Ok z) (Err f) → Reads l c c' (λ v. v) r
decides {l = l} {c = c} {c' = c'} true z f h e = subst (Reads l c c' (λ v. v)) (sym e) (read_all z refl h)
decides {l = l} {c = c} {c' = c'} false z f h e = subst (Reads l c c' (λ v. v)) (sym e) (read_fault h)

-- ---- a field that is checked

module _ (w : ℕ) (e : Refusal) (ok : ℕ → Bool) {c c' : Cursor} where
  pub checked_fault : {X : Type 0} {view : X → ℕ} {r : Result X ByteFault} (f : ByteFault) → Reads (number w) c c' (λ v. v) (Err f) → IsErrAnd r (λ y. y ≡ f) →
      Reads (checked w e ok) c c' view r
  unfolding checked
  checked_fault f h k = field_fault w _ f h k

  pub checked_ok : {v : ℕ} → Reads (number w) c c' (λ v. v) (Ok v) → ok v ≡ true → Reads (checked w e ok) c c' (λ v. v) (Ok v)
  unfolding checked
  checked_ok {v} h t = decides (ok v) v (fault e c.at) (field_more w _ v h) (rw t)

  pub checked_bad : {v : ℕ} → Reads (number w) c c' (λ v. v) (Ok v) → ok v ≡ false → Reads (checked w e ok) c c' (λ v. v) (Err (fault e c.at))
  unfolding checked
  checked_bad {v} h t = decides (ok v) v (fault e c.at) (field_more w _ v h) (rw t)

-- a number that came through is one that the check lets through, w bytes on
came_through : (w : ℕ) (file : List ℕ) (p : ℕ) (e : Refusal) (ok : ℕ → Bool) (v q : ℕ) → reached v q ≡ reads (checked w e ok) file p →
    (ok v ≡ true) × (p + w ≤ length file) × (q ≡ p + w)
unfolding reads checked
came_through w file p e ok v q h =
    ⊎_elim
    (λ (l : (leb (p + w) (length file) ≡ true) × (p + w ≤ length file)).
    ⊎_elim
    (λ (t : ok (value file p w) ≡ true).
    let f : reached v q ≡ reads (cond (ok (value file p w)) (gives (value file p w)) (fails (fault e p))) file (p + w) = rw l.0 at h in
    let g : ◌≡◌ {A = Outcome ByteFault ℕ} (reached v q) (reached (value file p w) (p + w)) = rw t at f in
    let s : v ≡ value file p w = cc in
    (ap ok s ∙ t, l.1, cc))
    (λ (t : ok (value file p w) ≡ false).
    let f : reached v q ≡ reads (cond (ok (value file p w)) (gives (value file p w)) (fails (fault e p))) file (p + w) = rw l.0 at h in
    let g : reached v q ≡ refused (fault e p) = rw t at f in
    let z : ◌≡◌ {A = ℕ} 0 1 = cc in
    absurd (omega arith))
    (cases_Bool (ok (value file p w))))
    (λ (l : (leb (p + w) (length file) ≡ false) × (length file < p + w)).
    let f : reached v q ≡ refused (fault Ends p) = rw l.0 at h in
    let z : ◌≡◌ {A = ℕ} 0 1 = cc in
    absurd (omega arith))
    (leb_tells (p + w) (length file))

pub checked_end : (w : ℕ) (file : List ℕ) (p : ℕ) (e : Refusal) (ok : ℕ → Bool) (v q : ℕ) → reached v q ≡ reads (checked w e ok) file p →
    (p + w ≤ length file) × (q ≡ p + w)
checked_end w file p e ok v q h = let c = came_through w file p e ok v q h in (c.1, c.2)
