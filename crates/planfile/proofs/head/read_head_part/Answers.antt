use Rattle.std.proofs.Common.{refl, rules}
use Rattle.layout.specs.declared.part.Part.TheVariants.{Head}
use Rattle.layout.specs.Faults.{on_line, in_part}
use Rattle.layout.specs.Layouts.{told}
use Rattle.layout.proofs.Steps.{told_outcome}
use Rattle.planfile.specs.declared.heads.SoundHead.{SoundHead}
use Rattle.planfile.specs.Heads.{head_of}
use Rattle.planfile.specs.Sound.{plain}
use Rattle.std.specs.Result.{result_map_both}
use Rattle.planfile.proofs.head.read_head_part.Goals as goal

pub returns-clause-reads : goal.returns-clause-reads
returns-clause-reads c =
    let file = c.args.file.now in
    let r = c.read_head.result in
    let lined = told_outcome (on_line 0) head_of file 0 5 plain r (result_map_both (λ (x : SoundHead). x) (on_line 0) r) c.read_head.ensures.reads refl in
    told_outcome (in_part Head) (told (on_line 0) head_of) file 0 5 plain _ _ lined (search rules)
