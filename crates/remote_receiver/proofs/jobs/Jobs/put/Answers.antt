use Rattle.std.proofs.Common.{ap, arith, length, ◌∙◌}
use Rattle.std.proofs.lemmas.List.{length_push}
use Rattle.response_map.specs.Contents.{Contents}
use Rattle.remote_receiver.specs.Notes.{unrun}
use Rattle.remote_receiver.proofs.Requests.{put_noted}
use Rattle.remote_receiver.proofs.jobs.Jobs.put.Goals as goal

pub invariant_of-self : goal.invariant_of-self
invariant_of-self g c =
    let longer = length_push c.args.self.now.notes.items (unrun c.args.key) in
    let all = ap length c.push_reserved.ensures.items ∙ longer in
    record {
      noted = put_noted _ _ _ _ c.args.key _ (ap (λ (m : Contents _). m.callbacks) c.put.ensures) (omega (arith, all)) (omega (arith, all))
          c.args.self.now.noted;
    }
