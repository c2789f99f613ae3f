-- The head of a plan file, written. Assumes nothing.
use Rattle.std.proofs.Common.{◌≡◌, ℕ, ◌<◌, ◌≤◌, leb, List, [], ◌∷◌, ◌++◌, sym, refl, ap, ◌∙◌, subst, ⊎_elim, arith}
use Rattle.std.proofs.lemmas.Bool.{cases_eq, and_parts, and_from, le-leb, leb-true, eq-eqb, ne_eqb}
use Rattle.network.specs.Networks.{Size}
use Rattle.network.specs.declared.refusal.Refusal.{Refusal}
use Rattle.network.specs.declared.refusal.Refusal.TheVariants.{Edition, UnknownScale, Size as WrongSize}
use Rattle.layout.specs.declared.faults.ByteFault.{ByteFault}
use Rattle.layout.specs.Layouts.{Layout, gives, then, checked}
use Rattle.layout.specs.Writing.{Lays, no_field}
use Rattle.layout.proofs.Laid.{gives_laid, then_lays, then_laid, checked_lays, checked_laid, one_byte}
use Rattle.planfile.specs.declared.heads.Head.{Head}
use Rattle.planfile.specs.declared.heads.ScaleKind.{ScaleKind}
use Rattle.planfile.specs.declared.heads.ScaleKind.TheVariants.{Minutes, Grades}
use Rattle.planfile.specs.Heads.{one_to, kind, head_of}
use Rattle.planfile.specs.Documents.{scale_byte}

-- ---- a byte from 1 to n, and what follows it

module _ {A : Type 0} (n : ℕ) (e : Refusal) (more : ℕ → Layout ByteFault A) (p : ℕ) where
  byte_lays :
      (v : ℕ) (rest : List ℕ) (a : A) → 1 ≤ v → v ≤ n → n < 256 → ((q : ℕ) → Lays (more v) q rest a)
      → Lays (then (checked 1 e (one_to n)) more) p (v ∷ rest) a
  byte_lays v rest a some few small t =
      subst (λ x. Lays (then (checked 1 e (one_to n)) more) p (x ++ rest) a) (one_byte v (omega arith))
      (then_lays (checked 1 e (one_to n)) more p _ rest v a
      (checked_lays 1 e (one_to n) p v (omega arith) (and_from _ _ (le-leb 1 v some) (le-leb v n few))) t)

  byte_laid :
      (bytes : List ℕ) (a : A) → Lays (then (checked 1 e (one_to n)) more) p bytes a
      → (v : ℕ) × (1 ≤ v) × (v ≤ n) × (rest : List ℕ) × (q : ℕ) × Lays (more v) q rest a × (bytes ≡ v ∷ rest)
  byte_laid bytes a t =
      let d = then_laid (checked 1 e (one_to n)) more p bytes a t in
      let v = d.given in
      let c = checked_laid 1 e (one_to n) p d.front v d.first in
      let o = and_parts (leb 1 v) (leb v n) c.1 in (
        v,
        leb-true 1 v o.0,
        leb-true v n o.1,
        d.back,
        d.at,
        d.second,
        d.whole ∙ ap (λ x. x ++ d.back) (c.2 ∙ one_byte v c.0),
      )

-- ---- the scale

kind_byte : (k : ScaleKind) → kind (scale_byte k) ≡ k
kind_byte Minutes = refl
kind_byte Grades = refl

scale_some : (k : ScaleKind) → (1 ≤ scale_byte k) × (scale_byte k ≤ 2)
scale_some Minutes = (omega arith, omega arith)
scale_some Grades = (omega arith, omega arith)

byte_kind : (v : ℕ) → 1 ≤ v → v ≤ 2 → scale_byte (kind v) ≡ v
byte_kind v some few =
    ⊎_elim
    (λ (e : v ≡ 1). rw (eq-eqb v 1 e) (sym e))
    (λ (e : v ≡ 1 → ⊥). rw (ne_eqb v 1 e) (omega arith))
    (cases_eq v 1)

-- ---- the head

abbrev pub head_written : Head → List ℕ
head_written h = 1 ∷ scale_byte h.scale ∷ h.stations ∷ h.left ∷ h.right ∷ []

pub head_lays : (h : Head) (p : ℕ) → Size h.stations → Size h.left → Size h.right → Lays head_of p (head_written h) h
unfolding head_of
head_lays h p n l r =
    let s = scale_some h.scale in
    byte_lays 1 Edition _ p 1 _ h (omega arith) (omega arith) (omega arith) (λ q1.
    byte_lays 2 UnknownScale _ q1 (scale_byte h.scale) _ h s.0 s.1 (omega arith) (λ q2.
    byte_lays 32 WrongSize _ q2 h.stations _ h n.some n.few (omega arith) (λ q3.
    byte_lays 32 WrongSize _ q3 h.left _ h l.some l.few (omega arith) (λ q4.
    byte_lays 32 WrongSize _ q4 h.right [] h r.some r.few (omega arith) (λ q5.
    subst (λ k. Lays {F = ByteFault} (gives (record { scale = k; stations = h.stations; left = h.left; right = h.right })) q5 [] h) (sym (kind_byte h.scale)) no_field)))))

pub head_laid :
    (p : ℕ) (bytes : List ℕ) (h : Head) → Lays head_of p bytes h
    → Size h.stations × Size h.left × Size h.right × (bytes ≡ head_written h)
unfolding head_of
head_laid p bytes h t =
    let c1 = byte_laid 1 Edition _ p bytes h t in
    let c2 = byte_laid 2 UnknownScale _ c1.4 c1.3 h c1.5 in
    let c3 = byte_laid 32 WrongSize _ c2.4 c2.3 h c2.5 in
    let c4 = byte_laid 32 WrongSize _ c3.4 c3.3 h c3.5 in
    let c5 = byte_laid 32 WrongSize _ c4.4 c4.3 h c4.5 in
    let g = gives_laid _ c5.4 c5.3 h c5.5 in
    let i = g.1 in
    let one : c1.0 ≡ 1 = omega (arith, c1.1, c1.2) in
    let e1 = c1.6 in let e2 = c2.6 in let e3 = c3.6 in let e4 = c4.6 in let e5 = c5.6 in let e6 = g.0 in
    let s : scale_byte h.scale ≡ c2.0 = ap (λ x. scale_byte x.scale) i ∙ byte_kind c2.0 c2.1 c2.2 in
    let es = ap (λ x. x.stations) i in let el = ap (λ x. x.left) i in let er = ap (λ x. x.right) i in (
      (subst Size (sym es) (record { some = c3.1; few = c3.2 })),
      (subst Size (sym el) (record { some = c4.1; few = c4.2 })),
      (subst Size (sym er) (record { some = c5.1; few = c5.2 })),
      cc,
    )
