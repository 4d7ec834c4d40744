use Rattle.wire_view.proofs.array_view.ArrayView.len.Goals as goal

pub returns : goal.returns
returns c = c.args.self.now.counted
