use Rattle.planfile.proofs.FilesLaw.{reads_what_is_written}
use Rattle.planfile.proofs.laws.plan_files_stand.Goals as goal

pub returns : goal.returns
returns c = reads_what_is_written
