-- Every file is read exactly as it is written. Assumes nothing.
use Rattle.std.proofs.Common.{◌≡◌, ℕ, ◌<◌, true, false, cond, ltb, List, [], ◌++◌, length, drop, Ok, Err, Result, ◌↔◌, ◌⊎◌, sym, refl, ap, ◌∙◌, inl, inr, ⊎_elim, arith}
use Rattle.std.proofs.lemmas.List.{append-nil, length-append, length-drop, drop_all}
use Rattle.std.proofs.lemmas.Bool.{lt-ltb, le-ltb, ltb-true, ltb-false, cases_Bool}
use Rattle.layout.specs.Faults.{FileFault}
use Rattle.layout.specs.Layouts.{Outcome, reached, refused, reads}
use Rattle.layout.specs.Writing.{Bytes}
use Rattle.layout.proofs.Written.{reads_written, lays_read, finds_first, breaks_read}
use Rattle.planfile.specs.Files.{Description, file_of, extra, closed, file_read}
use Rattle.planfile.specs.Documents.{Document, Sound, written, described, Writes, FirstFault}
use Rattle.planfile.specs.Laws.{ReadsWhatIsWritten}
use Rattle.planfile.proofs.FilesWritten.{file_lays, file_laid}

-- ---- what is written is read

written_read : (d : Document) (rest : List ℕ) → Sound d → reads file_of (written d ++ rest) 0 ≡ reached (described d) (length (written d))
written_read d rest s = reads_written file_of [] (written d) rest 0 (described d) (file_lays d s) refl ∙ ap (reached (described d)) (omega arith)

accepts : (file : List ℕ) (p : Description) → Writes file p → file_read file ≡ Ok p
accepts file p (d, s, e, f) =
    let n = length (written d) in
    let r : reads file_of (written d) 0 ≡ reached (described d) n = ap (λ x. reads file_of x 0) (sym (append-nil (written d))) ∙ written_read d [] s in
    let c : closed n (reached (described d) n) ≡ Ok (described d) = ap (λ b. cond b (Err (extra n)) (Ok (described d))) (le-ltb n n (omega arith)) in
    ap file_read (sym e) ∙ ap (closed n) r ∙ c ∙ ap Ok f

refuses : (file : List ℕ) (f : FileFault) → FirstFault file f → file_read file ≡ Err f
refuses file f (inl t) = ap (closed (length file)) (finds_first file_of [] file 0 f t refl)
refuses file f (inr (d, rest, s, some, e, g)) =
    let n = length (written d) in
    let m = length (written d ++ rest) in
    let l : n < m = omega (arith, length-append (written d) rest) in
    let c : closed m (reached (described d) n) ≡ Err (extra n) = ap (λ b. cond b (Err (extra n)) (Ok (described d))) (lt-ltb n m l) in
    ap file_read (sym e) ∙ ap (closed m) (written_read d rest s) ∙ c ∙ ap Err (sym g)

-- ---- what is read was written

module _ (file : List ℕ) (b : Bytes file) where
  -- what was read to the end is a document, and what is left follows it
  read_written :
      (a : Description) (q : ℕ) → reads file_of file 0 ≡ reached a q
      → (d : Document) × Sound d × (written d ++ drop q file ≡ file) × (described d ≡ a) × (q ≡ length (written d))
  read_written a q e =
      let l = lays_read file b file_of 0 q a e in
      let w = file_laid l.0 a l.1 in
      let d = w.0 in
      let g : written d ++ drop q file ≡ file = ap (λ x. x ++ drop q file) w.2 ∙ sym l.2 in
      let r = sym (written_read d (drop q file) w.1) ∙ ap (λ x. reads file_of x 0) g ∙ e in
      (d, w.1, g, w.3, cc)

  accepted_by : (o : Outcome FileFault Description) → reads file_of file 0 ≡ o → (p : Description) → closed (length file) o ≡ Ok p → Writes file p
  accepted_by (refused g) e p h = let z : ◌≡◌ {A = ℕ} 0 1 = cc in absurd (omega arith)
  accepted_by (reached a q) e p h =
      ⊎_elim
      (λ (t : ltb q (length file) ≡ true).
      let k : Err (extra q) ≡ Ok p = rw t at h in
      let z : ◌≡◌ {A = ℕ} 0 1 = cc in
      absurd (omega arith))
      (λ (t : ltb q (length file) ≡ false).
      let k : Ok a ≡ Ok p = rw t at h in
      let s : a ≡ p = cc in
      let r = read_written a q e in
      let n = drop_all q file (ltb-false q (length file) t) in
      (r.0, r.1, sym (append-nil (written r.0)) ∙ ap (λ x. written r.0 ++ x) (sym n) ∙ r.2, r.3 ∙ s))
      (cases_Bool (ltb q (length file)))

  refused_by : (o : Outcome FileFault Description) → reads file_of file 0 ≡ o → (f : FileFault) → closed (length file) o ≡ Err f → FirstFault file f
  refused_by (refused g) e f h = let s : g ≡ f = cc in inl (breaks_read file b file_of 0 f (omega arith) (e ∙ ap refused s))
  refused_by (reached a q) e f h =
      ⊎_elim
      (λ (t : ltb q (length file) ≡ true).
      let k : Err (extra q) ≡ Err f = rw t at h in
      let s : extra q ≡ f = cc in
      let r = read_written a q e in
      let l : 0 < length (drop q file) = omega (arith, length-drop q file, ltb-true q (length file) t) in
      inr (r.0, drop q file, r.1, l, r.2, sym s ∙ ap extra r.4))
      (λ (t : ltb q (length file) ≡ false).
      let k : Ok a ≡ Err f = rw t at h in
      let z : ◌≡◌ {A = ℕ} 0 1 = cc in
      absurd (omega arith))
      (cases_Bool (ltb q (length file)))

-- ---- one of the two, and only one

module _ (file : List ℕ) (ok : (p : Description) → (file_read file ≡ Ok p) ↔ Writes file p) (err : (f : FileFault) → (file_read file ≡ Err f) ↔ FirstFault file f) where
  either : (r : Result Description FileFault) → file_read file ≡ r → ((p : Description) × Writes file p) ⊎ ((f : FileFault) × FirstFault file f)
  either (Ok p) e = inl (p, (ok p).0 e)
  either (Err f) e = inr (f, (err f).0 e)

  apart : (p : Description) (f : FileFault) → Writes file p → FirstFault file f → ⊥
  apart p f w h =
      let k : Ok p ≡ Err f = sym ((ok p).1 w) ∙ (err f).1 h in
      let z : ◌≡◌ {A = ℕ} 0 1 = cc in
      absurd (omega arith)

  same_description : (p q : Description) → Writes file p → Writes file q → p ≡ q
  same_description p q w h = let k : ◌≡◌ {A = Result Description FileFault} (Ok p) (Ok q) = sym ((ok p).1 w) ∙ (ok q).1 h in cc

  same_fault : (f g : FileFault) → FirstFault file f → FirstFault file g → f ≡ g
  same_fault f g w h = let k : ◌≡◌ {A = Result Description FileFault} (Err f) (Err g) = sym ((err f).1 w) ∙ (err g).1 h in cc

pub reads_what_is_written : (file : List ℕ) → Bytes file → ReadsWhatIsWritten file
reads_what_is_written file b =
    let ok : (p : Description) → (file_read file ≡ Ok p) ↔ Writes file p = λ p. (accepted_by file b (reads file_of file 0) refl p, accepts file p) in
    let err : (f : FileFault) → (file_read file ≡ Err f) ↔ FirstFault file f = λ f. (refused_by file b (reads file_of file 0) refl f, refuses file f) in
    record {
      accepted = ok;
      refused = err;
      one = either file ok err (file_read file) refl;
      not_both = apart file ok err;
      one_description = same_description file ok err;
      one_fault = same_fault file ok err;
    }
