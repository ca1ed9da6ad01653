use Rattle.std.proofs.Common.{arith}
use Rattle.masking.proofs.Widths.{halved_as, halved_fits}
use Rattle.masking.proofs.halve.Goals as goal

pub overflow_add-result : goal.overflow_add-result
overflow_add-result g c =
    let f = halved_fits g.row.TOP g.row.POLY c.from.result c.args.x c.requires.top c.from.ensures c.requires.fits c.requires.poly in
    omega arith

pub returns : goal.returns
returns g c = halved_as g.row.TOP g.row.POLY c.from.result c.args.x c.requires.top c.from.ensures
