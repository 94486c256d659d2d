use Rattle.std.proofs.Common.{arith}
use Rattle.std.proofs.lemmas.Bool.Decides.{nat_tests}
use Rattle.pams.specs.Pams.{pam_size}
use Rattle.pams.specs.PamsLemmas.{sized, pam_length, pam_at, pam_held}
use Rattle.pams.proofs.pam.PamAlphabet.point.Goals as goal

pub returns-then-index-size : goal.returns-then-index-size
returns-then-index-size c =
    let n = pam_size c.args.self.now.size in
    let i = c.args.index in
    grind (arith, nat_tests, pam_length n, pam_at n i, pam_held n c.from-size.result i (sized c.args.self.now.size) c.from-size.ensures)
