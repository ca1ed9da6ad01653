use Rattle.std.specs.BTreeMap.{btree_map_len}
use Rattle.session.proofs.stations.Member.end.Given as goal

abbrev pub decreases-loop-label : goal.decreases-loop-label
decreases-loop-label l = btree_map_len l.held
