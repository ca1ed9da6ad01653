-- Taking a ticket from a station leaves each station under its name.
use Rattle.std.proofs.Common.{sym, ◌∙◌}
use Rattle.session.proofs.Names.{still_there}
use Rattle.session.proofs.stations.Stations.take.Goals as goal

pub returns-clause-names : goal.returns-clause-names
returns-clause-names c = c.values_mut.ensures.keeps.0 _

pub returns-clause-known : goal.returns-clause-known
returns-clause-known c =
    still_there c.ok_or.result c.args.name.now c.args.self.now.members.entries _ (c.values_mut.ensures.keeps.0 _)
    (sym c.contains_key.ensures ∙ c.if-not-contains_key.false)
