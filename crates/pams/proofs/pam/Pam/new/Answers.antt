use Rattle.std.proofs.Common.{refl}
use Rattle.ranks.specs.Ranks.{ranking}
use Rattle.pams.specs.Pams.{pam_points}
use Rattle.pams.proofs.pam.Pam.new.Goals as goal

pub returns-clause-ranks : goal.returns-clause-ranks
unfolding ranking pam_points
returns-clause-ranks c = (refl, refl, refl)
