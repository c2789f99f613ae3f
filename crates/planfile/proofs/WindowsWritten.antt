-- The windows of a side, written. Assumes nothing.
use Rattle.std.proofs.Common.{◌≡◌, ℕ, zero, suc, ◌+◌, ◌<◌, Bool, true, false, cond, ltb, List, [], ◌∷◌, ◌++◌, map, length, ℤ, ◌≤ℤ◌, is_some, Some, None, Option, unwrap_or, sym, refl, ap, ◌∙◌, subst, ⊎_elim, arith}
use lib.Signed.{le_z}
use Rattle.std.proofs.lemmas.List.{append_assoc, append-nil}
use Rattle.std.proofs.lemmas.Bool.{cases_Bool, lt-ltb, ltb-true, cond-true}
use Rattle.std.proofs.lemmas.Bool.Decides.{nat_tests}
use Rattle.network.specs.declared.refusal.Refusal.TheVariants.{Bit, Window as NoWindow, Crossed}
use Rattle.layout.specs.declared.bounds.Bounds.{Bounds}
use Rattle.layout.specs.declared.faults.ByteFault.{ByteFault}
use Rattle.layout.specs.Faults.{fault, on_line}
use Rattle.layout.specs.Layouts.{Layout, gives, fails, then, told}
use Rattle.layout.specs.Numbers.{number_in}
use Rattle.layout.specs.Writing.{bytes_of, Lays, no_field, one_field}
use Rattle.layout.proofs.Laid.{gives_laid, fails_laid, then_lays, then_laid, told_lays, told_laid, decided_lays, decided_laid, one_byte}
use Rattle.model.specs.declared.bench.Window.{Window}
use Rattle.planfile.specs.Windows.{has_floor, has_ceiling, limit, window, limits_of, window_of}
use Rattle.planfile.specs.Parts.{windows_of}
use Rattle.planfile.specs.Documents.{Limits, complement, map_number, numbers, window_written, windows_written, Bounded, filled, SoundWindows}
use Rattle.planfile.proofs.Complement.{Narrow, complement_lays, complement_laid, le_leZ, leZ_true}

-- ---- the map

map_under : (f c : Option ℤ) → map_number (f ∷ c ∷ []) < 4
map_under None None = omega arith
map_under None (Some y) = omega arith
map_under (Some x) None = omega arith
map_under (Some x) (Some y) = omega arith

map_floor : (f c : Option ℤ) → has_floor (map_number (f ∷ c ∷ [])) ≡ is_some f
map_floor None None = refl
map_floor None (Some y) = refl
map_floor (Some x) None = refl
map_floor (Some x) (Some y) = refl

map_ceiling : (f c : Option ℤ) → has_ceiling (map_number (f ∷ c ∷ [])) ≡ is_some c
map_ceiling None None = refl
map_ceiling None (Some y) = refl
map_ceiling (Some x) None = refl
map_ceiling (Some x) (Some y) = refl

-- a map of two bits is known by them
map_known : (m : ℕ) (f c : Option ℤ) → m < 4 → is_some f ≡ has_floor m → is_some c ≡ has_ceiling m → m ≡ map_number (f ∷ c ∷ [])
map_known m None None h p q = grind (arith, nat_tests)
map_known m None (Some y) h p q = grind (arith, nat_tests)
map_known m (Some x) None h p q = grind (arith, nat_tests)
map_known m (Some x) (Some y) h p q = grind (arith, nat_tests)

numbers_two : (f c : Option ℤ) → numbers (f ∷ []) ++ numbers (c ∷ []) ≡ numbers (f ∷ c ∷ [])
numbers_two None c = refl
numbers_two (Some x) c = ap (λ y. y ++ numbers (c ∷ [])) (append-nil (bytes_of 4 (complement x)))

module _ (b : Bounds) where
  -- ---- a window

  limit_lays : Narrow b → (o : Option ℤ) (z : ℤ) (p : ℕ) → Bounded b o → Lays (limit b (is_some o) z) p (numbers (o ∷ [])) (unwrap_or o z)
  unfolding limit
  limit_lays w None z p h = no_field
  limit_lays w (Some a) z p h =
      subst (λ y. Lays (number_in b NoWindow) p y a) (sym (append-nil (bytes_of 4 (complement a)))) (complement_lays b NoWindow p w a h)

  limit_laid :
      (s : Bool) (z : ℤ) (p : ℕ) (bytes : List ℕ) (a : ℤ) → Lays (limit b s z) p bytes a
      → (o : Option ℤ) × (is_some o ≡ s) × Bounded b o × (bytes ≡ numbers (o ∷ [])) × (a ≡ unwrap_or o z)
  unfolding limit
  limit_laid false z p bytes a t = let d = gives_laid z p bytes a t in (None, refl, tt, d.0, d.1)
  limit_laid true z p bytes a t =
      let d = complement_laid b NoWindow p bytes a t in (Some a, refl, d.1, d.0 ∙ sym (append-nil (bytes_of 4 (complement a))), refl)

  abbrev SoundLimits : Limits → Type 0
  SoundLimits l = Bounded b l.floor × Bounded b l.ceiling × ((filled b l).floor ≤ℤ (filled b l).ceiling)

  limits_lay :
      Narrow b → (l : Limits) (q p : ℕ) → SoundLimits l
      → Lays (limits_of b q (is_some l.floor) (is_some l.ceiling)) p (numbers (l.floor ∷ l.ceiling ∷ [])) (filled b l)
  unfolding limits_of
  limits_lay w l q p h =
      let f = (filled b l).floor in
      let c = (filled b l).ceiling in
      let end : ℤ → Layout ByteFault Window = λ y. cond (le_z f y) (gives (window f y)) (fails (fault Crossed q)) in
      let high = limit b (is_some l.ceiling) b.greatest in
      subst (λ y. Lays (limits_of b q (is_some l.floor) (is_some l.ceiling)) p y (filled b l)) (numbers_two l.floor l.ceiling)
      (then_lays (limit b (is_some l.floor) b.least) _ p (numbers (l.floor ∷ [])) (numbers (l.ceiling ∷ [])) f (window f c) (limit_lays w l.floor b.least p h.0)
      (λ r. subst (λ y. Lays (then high end) r y (window f c)) (append-nil (numbers (l.ceiling ∷ [])))
      (then_lays high end r (numbers (l.ceiling ∷ [])) [] c (window f c) (limit_lays w l.ceiling b.greatest r h.1)
      (λ s. decided_lays (le_z f c) (window f c) (fault Crossed q) s (le_leZ f c h.2)))))

  limits_laid :
      (q : ℕ) (floor ceiling : Bool) (p : ℕ) (bytes : List ℕ) (w : Window) → Lays (limits_of b q floor ceiling) p bytes w
      → (l : Limits) × (is_some l.floor ≡ floor) × (is_some l.ceiling ≡ ceiling) × SoundLimits l × (bytes ≡ numbers (l.floor ∷ l.ceiling ∷ []))
      × (w ≡ filled b l)
  unfolding limits_of
  limits_laid q floor ceiling p bytes w t =
      let d = then_laid (limit b floor b.least) _ p bytes w t in
      let e = then_laid (limit b ceiling b.greatest) _ d.at d.back w d.second in
      let f = limit_laid floor b.least p d.front d.given d.first in
      let c = limit_laid ceiling b.greatest d.at e.front e.given e.first in
      let k = decided_laid (le_z d.given e.given) (window d.given e.given) (fault Crossed q) e.at e.back w e.second in
      let o : d.given ≤ℤ e.given = leZ_true d.given e.given k.0 in
      let o2 = subst (λ x. x ≤ℤ e.given) f.4 o in (
        record { floor = f.0; ceiling = c.0 },
        f.1,
        c.1,
        (f.2, c.2, subst (λ x. unwrap_or f.0 b.least ≤ℤ x) c.4 o2),
        d.whole ∙ ap (λ x. x ++ d.back) f.3
            ∙ ap (λ x. numbers (f.0 ∷ []) ++ x) (e.whole ∙ ap (λ x. e.front ++ x) k.1 ∙ append-nil e.front ∙ c.3)
            ∙ numbers_two f.0 c.0,
        k.2 ∙ ap (λ x. window x e.given) f.4 ∙ ap (window (unwrap_or f.0 b.least)) c.4,
      )

  window_lays : Narrow b → (l : Limits) (p : ℕ) → SoundLimits l → Lays (window_of b) p (window_written l) (filled b l)
  unfolding window_of
  window_lays w l p h =
      let m = map_number (l.floor ∷ l.ceiling ∷ []) in
      let u = map_under l.floor l.ceiling in
      let ns = numbers (l.floor ∷ l.ceiling ∷ []) in
      let e : cond (ltb m 4) (limits_of b p (has_floor m) (has_ceiling m)) (fails (fault Bit p)) ≡ limits_of b p (is_some l.floor) (is_some l.ceiling) =
      cond-true _ _ _ (lt-ltb m 4 u) ∙ ap (λ x. limits_of b p x (has_ceiling m)) (map_floor l.floor l.ceiling)
      ∙ ap (limits_of b p (is_some l.floor)) (map_ceiling l.floor l.ceiling) in
      subst (λ y. Lays (window_of b) p (y ++ ns) (filled b l)) (one_byte m (omega arith))
      (one_field m (omega arith) (subst (λ y. Lays y (p + 1) ns (filled b l)) (sym e) (limits_lay w l p (p + 1) h)))

  window_laid :
      (p : ℕ) (bytes : List ℕ) (w : Window) → Lays (window_of b) p bytes w
      → (l : Limits) × SoundLimits l × (bytes ≡ window_written l) × (w ≡ filled b l)
  unfolding window_of
  window_laid p _ w (one_field {rest = rest} m h t) =
      ⊎_elim
      (λ (z : ltb m 4 ≡ true).
      let u = ltb-true m 4 z in
      let d = limits_laid p (has_floor m) (has_ceiling m) (p + 1) rest w (rw z at t) in
      let l = d.0 in
      let k = map_known m l.floor l.ceiling u d.1 d.2 in (
        l,
        d.3,
        ap (λ x. x ++ rest) (one_byte m (omega arith)) ∙ ap (λ x. m ∷ x) d.4 ∙ ap (λ x. x ∷ numbers (l.floor ∷ l.ceiling ∷ [])) k,
        d.5,
      ))
      (λ (z : ltb m 4 ≡ false). absurd (fails_laid (fault Bit p) (p + 1) rest w (rw z at t)))
      (cases_Bool (ltb m 4))

  -- ---- one window after another

  pub windows_lay :
      Narrow b → (ls : List Limits) (i : ℕ) (done : List Window) (p : ℕ) → SoundWindows b ls
      → Lays (windows_of b (length ls) i done) p (windows_written ls) (done ++ map (filled b) ls)
  unfolding windows_of
  windows_lay w [] i done p h = subst (λ y. Lays (windows_of b 0 i done) p [] y) (sym (append-nil done)) no_field
  windows_lay w (l ∷ ls) i done p h =
      let more = λ (x : Window). windows_of b (length ls) (suc i) (done ++ x ∷ []) in
      then_lays (told (on_line i) (window_of b)) more p (window_written l) (windows_written ls) (filled b l) (done ++ map (filled b) (l ∷ ls))
      (told_lays (on_line i) (window_of b) p (window_written l) (filled b l) (window_lays w l p (h.0, h.1, h.2)))
      (λ q. subst (λ y. Lays (more (filled b l)) q (windows_written ls) y) (append_assoc done (filled b l ∷ []) (map (filled b) ls))
      (windows_lay w ls (suc i) (done ++ filled b l ∷ []) q h.3))

  pub windows_laid :
      (k i : ℕ) (done : List Window) (p : ℕ) (bytes : List ℕ) (out : List Window) → Lays (windows_of b k i done) p bytes out
      → (ls : List Limits) × (length ls ≡ k) × SoundWindows b ls × (bytes ≡ windows_written ls) × (out ≡ done ++ map (filled b) ls)
  unfolding windows_of
  windows_laid zero i done p bytes out t = let d = gives_laid done p bytes out t in ([], refl, tt, d.0, d.1 ∙ sym (append-nil done))
  windows_laid (suc k) i done p bytes out t =
      let d = then_laid (told (on_line i) (window_of b)) _ p bytes out t in
      let c = window_laid p d.front d.given (told_laid (on_line i) (window_of b) p d.front d.given d.first) in
      let l = c.0 in
      let j = windows_laid k (suc i) (done ++ d.given ∷ []) d.at d.back out d.second in (
        l ∷ j.0,
        ap suc j.1,
        (c.1.0, c.1.1, c.1.2, j.2),
        d.whole ∙ ap (λ x. x ++ d.back) c.2 ∙ ap (λ x. window_written l ++ x) j.3,
        j.4 ∙ append_assoc done (d.given ∷ []) (map (filled b) j.0) ∙ ap (λ x. done ++ x ∷ map (filled b) j.0) c.3,
      )
