use Rattle.std.specs.BTreeMap.{btree_map_len}
use Rattle.session.proofs.stations.Stations.end.Given as goal

abbrev pub decreases-loop-name : goal.decreases-loop-name
decreases-loop-name l = btree_map_len l.members
