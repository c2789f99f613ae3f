-- A plan file, written: the layout lays exactly the sound documents. Assumes nothing.
use Rattle.std.proofs.Common.{◌≡◌, ℕ, List, [], ◌++◌, map, length, ℤ, Option, sym, ap, ◌∙◌, subst, arith}
use Rattle.std.proofs.lemmas.List.{append-nil}
use Rattle.std.proofs.lemmas.Int.{ints}
use Rattle.network.specs.Networks.{Size}
use Rattle.layout.specs.declared.bounds.Bounds.{Bounds}
use Rattle.layout.specs.declared.faults.LineFault.{LineFault}
use Rattle.layout.specs.declared.part.Part.{Part}
use Rattle.layout.specs.declared.part.Part.TheVariants.{Head as HeadPart, LeftNetwork, RightNetwork, LeftWindows, RightWindows}
use Rattle.layout.specs.Faults.{FileFault, on_line, in_part}
use Rattle.layout.specs.Layouts.{Layout, gives, then, told}
use Rattle.layout.specs.Writing.{Lays, no_field}
use Rattle.layout.proofs.Laid.{gives_laid, then_lays, then_laid, told_lays, told_laid}
use Rattle.model.specs.declared.bench.Window.{Window}
use Rattle.planfile.specs.declared.heads.Head.{Head}
use Rattle.planfile.specs.declared.heads.ScaleKind.{ScaleKind}
use Rattle.planfile.specs.declared.heads.ScaleKind.TheVariants.{Minutes, Grades}
use Rattle.planfile.specs.Heads.{head_of}
use Rattle.planfile.specs.Parts.{rows_of, windows_of}
use Rattle.planfile.specs.Files.{Description, scale_of, coefficients, window_values, body_of, body_by, file_of}
use Rattle.planfile.specs.Documents.{Limits, Document, rows_written, windows_written, written, filled, SoundRows, SoundWindows, Sound, joined, described, Writes}
use Rattle.planfile.proofs.Complement.{Narrow}
use Rattle.planfile.proofs.RowsWritten.{rows_lay, rows_laid}
use Rattle.planfile.proofs.WindowsWritten.{windows_lay, windows_laid}
use Rattle.planfile.proofs.HeadWritten.{head_written, head_lays, head_laid}

narrow_coefficients : (k : ScaleKind) → Narrow (coefficients (scale_of k))
narrow_coefficients Minutes = (omega (arith, ints), omega (arith, ints))
narrow_coefficients Grades = (omega (arith, ints), omega (arith, ints))

narrow_windows : (k : ScaleKind) → Narrow (window_values (scale_of k))
narrow_windows Minutes = (omega (arith, ints), omega (arith, ints))
narrow_windows Grades = (omega (arith, ints), omega (arith, ints))

-- ---- the parts after the head

part_lays :
    {A B : Type 0} (i : Part) (l : Layout LineFault A) (more : A → Layout FileFault B) (p : ℕ) (u v : List ℕ) (a : A) (b : B)
    → Lays l p u a → ((q : ℕ) → Lays (more a) q v b) → Lays (then (told (in_part i) l) more) p (u ++ v) b
part_lays i l more p u v a b t k = then_lays (told (in_part i) l) more p u v a b (told_lays (in_part i) l p u a t) k

-- whatever follows from the rows that a part wrote, and from the layout after it
rows_part :
    {R : Type 0} (b : Bounds) (n k : ℕ) (i : Part) (more : List (Option ℤ) → Layout FileFault Description) (p : ℕ) (bytes : List ℕ) (out : Description)
    → Lays (then (told (in_part i) (rows_of b n k 0 [])) more) p bytes out
    → ((rows : List (List (Option ℤ))) (v : List ℕ) (q : ℕ) → length rows ≡ k → SoundRows b n rows → bytes ≡ rows_written rows ++ v
    → Lays (more (joined rows)) q v out → R)
    → R
rows_part b n k i more p bytes out t go =
    let d = then_laid (told (in_part i) (rows_of b n k 0 [])) more p bytes out t in
    let r = rows_laid b n k 0 [] p d.front d.given (told_laid (in_part i) (rows_of b n k 0 []) p d.front d.given d.first) in
    go r.0 d.back d.at r.1 r.2 (d.whole ∙ ap (λ x. x ++ d.back) r.3) (subst (λ x. Lays (more x) d.at d.back out) r.4 d.second)

windows_part :
    {R : Type 0} (b : Bounds) (k : ℕ) (i : Part) (more : List Window → Layout FileFault Description) (p : ℕ) (bytes : List ℕ) (out : Description)
    → Lays (then (told (in_part i) (windows_of b k 0 [])) more) p bytes out
    → ((ls : List Limits) (v : List ℕ) (q : ℕ) → length ls ≡ k → SoundWindows b ls → bytes ≡ windows_written ls ++ v
    → Lays (more (map (filled b) ls)) q v out → R)
    → R
windows_part b k i more p bytes out t go =
    let d = then_laid (told (in_part i) (windows_of b k 0 [])) more p bytes out t in
    let r = windows_laid b k 0 [] p d.front d.given (told_laid (in_part i) (windows_of b k 0 []) p d.front d.given d.first) in
    go r.0 d.back d.at r.1 r.2 (d.whole ∙ ap (λ x. x ++ d.back) r.3) (subst (λ x. Lays (more x) d.at d.back out) r.4 d.second)

abbrev body_written : Document → List ℕ
body_written d = rows_written d.left ++ (rows_written d.right ++ (windows_written d.lefts ++ windows_written d.rights))

body_lays : (d : Document) (p : ℕ) → Sound d → Lays (body_by (described d).head) p (body_written d) (described d)
unfolding body_of
body_lays d p s =
    let cs = coefficients (scale_of d.scale) in
    let ws = window_values (scale_of d.scale) in
    let nc = narrow_coefficients d.scale in
    let nw = narrow_windows d.scale in
    let n = length d.left in
    let m = length d.lefts in
    let k = length d.rights in
    let last : List Window → Layout FileFault Description = λ x.
    gives (record { head = (described d).head; left = joined d.left; right = joined d.right; lefts = map (filled ws) d.lefts; rights = x }) in
    part_lays LeftNetwork (rows_of cs m n 0 []) _ p (rows_written d.left) _ (joined d.left) (described d)
    (rows_lay cs m s.left_benches.few nc d.left 0 [] p s.left_rows) (λ q.
    part_lays RightNetwork (rows_of cs k n 0 []) _ q (rows_written d.right) _ (joined d.right) (described d)
    (subst (λ x. Lays (rows_of cs k x 0 []) q (rows_written d.right) (joined d.right)) s.level
    (rows_lay cs k s.right_benches.few nc d.right 0 [] q s.right_rows)) (λ r.
    part_lays LeftWindows (windows_of ws m 0 []) _ r (windows_written d.lefts) (windows_written d.rights) (map (filled ws) d.lefts) (described d)
    (windows_lay ws nw d.lefts 0 [] r s.left_windows) (λ t.
    subst (λ x. Lays (then (told (in_part RightWindows) (windows_of ws k 0 [])) last) t x (described d)) (append-nil (windows_written d.rights))
    (part_lays RightWindows (windows_of ws k 0 []) last t (windows_written d.rights) [] (map (filled ws) d.rights) (described d)
    (windows_lay ws nw d.rights 0 [] t s.right_windows) (λ _. no_field)))))

body_laid :
    (h : Head) (p : ℕ) (bytes : List ℕ) (out : Description) → Size h.stations → Size h.left → Size h.right → Lays (body_by h) p bytes out
    → (d : Document) × Sound d × ((described d).head ≡ h) × (bytes ≡ body_written d) × (described d ≡ out)
unfolding body_of
body_laid h p bytes out stations left right t =
    let cs = coefficients (scale_of h.scale) in
    let ws = window_values (scale_of h.scale) in
    rows_part cs h.left h.stations LeftNetwork _ p bytes out t (λ ls u p1 n1 s1 e1 t1.
    rows_part cs h.right h.stations RightNetwork _ p1 u out t1 (λ rs v p2 n2 s2 e2 t2.
    windows_part ws h.left LeftWindows _ p2 v out t2 (λ lw w p3 n3 s3 e3 t3.
    windows_part ws h.right RightWindows _ p3 w out t3 (λ rw x p4 n4 s4 e4 t4.
    let g = gives_laid _ p4 x out t4 in
    let d : Document = record { scale = h.scale; left = ls; right = rs; lefts = lw; rights = rw } in
    let same : (described d).head ≡ record { scale = h.scale; stations = h.stations; left = h.left; right = h.right } = cc in (
      d,
      record {
        stations = subst Size (sym n1) stations;
        level = n2 ∙ sym n1;
        left_benches = subst Size (sym n3) left;
        right_benches = subst Size (sym n4) right;
        left_rows = subst (λ k. SoundRows cs k ls) (sym n3) s1;
        right_rows = subst (λ k. SoundRows cs k rs) (sym n4) s2;
        left_windows = s3;
        right_windows = s4;
      },
      same,
      (
          let e5 : w ≡ windows_written rw = e4 ∙ ap (λ y. windows_written rw ++ y) g.0 ∙ append-nil (windows_written rw) in
          cc
          ),
      ap (λ k. record { head = k; left = joined ls; right = joined rs; lefts = map (filled ws) lw; rights = map (filled ws) rw }) same ∙ sym g.1,
    )))))

-- ---- the file

pub file_lays : (d : Document) → Sound d → Lays file_of 0 (written d) (described d)
unfolding file_of
file_lays d s =
    let h = (described d).head in
    then_lays (told (in_part HeadPart) (told (on_line 0) head_of)) body_by 0 (head_written h) (body_written d) h (described d)
    (told_lays (in_part HeadPart) (told (on_line 0) head_of) 0 (head_written h) h (told_lays (on_line 0) head_of 0 (head_written h) h (head_lays h 0 s.stations s.left_benches s.right_benches)))
    (λ q. body_lays d q s)

head_and_body :
    (d : Document) (h : Head) (bytes u v : List ℕ) → (described d).head ≡ h → u ≡ head_written h → v ≡ body_written d → bytes ≡ u ++ v → written d ≡ bytes
head_and_body d h bytes u v same first second whole =
    ap (λ x. head_written x ++ body_written d) same ∙ ap (λ x. x ++ body_written d) (sym first) ∙ ap (λ x. u ++ x) (sym second) ∙ sym whole

pub file_laid : (bytes : List ℕ) (out : Description) → Lays file_of 0 bytes out → Writes bytes out
unfolding file_of
file_laid bytes out t =
    let c = then_laid (told (in_part HeadPart) (told (on_line 0) head_of)) body_by 0 bytes out t in
    let h = c.given in
    let i = head_laid 0 c.front h
    (told_laid (on_line 0) head_of 0 c.front h (told_laid (in_part HeadPart) (told (on_line 0) head_of) 0 c.front h c.first)) in
    let b = body_laid h c.at c.back out i.0 i.1 i.2 c.second in
    (b.0, b.1, head_and_body b.0 h bytes c.front c.back b.2 i.3 b.3 c.whole, b.4)
