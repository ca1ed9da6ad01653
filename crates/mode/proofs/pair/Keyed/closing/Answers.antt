use Rattle.mode.specs.Pairs.{maps}
use Rattle.mode.proofs.Headers.{closed_first_part, closed_first_full, closed_full, closed_part}
use Rattle.mode.proofs.pair.Keyed.closing.Goals as goal

pub returns-in-0-true : goal.returns-in-0-true
returns-in-0-true g c =
    closed_first_full (maps g.C.Cipher g.M.Masking c.args.self.now.pair.now) c.args.n c.args.full c.args.kappa c.back.result c.back-in-0-true.result
    c.in-0-true.is-0 c.in-0-true.is-1 c.requires.kappa c.back.ensures c.back-in-0-true.ensures

pub returns-in-0-false : goal.returns-in-0-false
returns-in-0-false g c =
    closed_first_part (maps g.C.Cipher g.M.Masking c.args.self.now.pair.now) c.args.n c.args.full c.args.kappa c.back-in-0-false.result
    c.in-0-false.is-0 c.in-0-false.is-1 c.requires.kappa c.back-in-0-false.ensures

pub returns-in_default-true : goal.returns-in_default-true
returns-in_default-true g c = closed_full (maps g.C.Cipher g.M.Masking c.args.self.now.pair.now) c.args.n c.args.full c.in_default-true.is-0.1 c.in_default-true.is-1

pub returns-in_default-false : goal.returns-in_default-false
returns-in_default-false g c =
    closed_part (maps g.C.Cipher g.M.Masking c.args.self.now.pair.now) c.args.n c.args.full c.args.kappa c.args.mask c.step.result
    c.in_default-false.is-0.1 c.in_default-false.is-1 c.requires.kappa c.requires.mask c.step.ensures
