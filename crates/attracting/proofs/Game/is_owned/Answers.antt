use Rattle.attracting.proofs.Game.is_owned.Goals as goal

pub owns_state-requires : goal.owns_state-requires
owns_state-requires c = (c.requires, c.args.self.now.rows.sources_few c.args.s c.requires)
