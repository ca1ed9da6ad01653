use Rattle.masking.proofs.Widths.{doubled_as}
use Rattle.masking.proofs.double.Goals as goal

pub returns : goal.returns
returns g c = doubled_as g.row.TOP g.row.POLY c.from.result c.args.x c.requires.top c.from.ensures
