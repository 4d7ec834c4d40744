use Rattle.std.proofs.Common.{◌≡◌, ◌∷◌, Some, ◌∙◌, ap}
use Rattle.module_resolver.proofs.Owned.{again, behind}
use Rattle.module_resolver.specs.Seats.{file_of}
use Rattle.module_resolver.proofs.owners.Owners.add.Goals as goal

pub returns-then-last_file-file_of : goal.returns-then-last_file-file_of
returns-then-last_file-file_of c = λ p.
    let same : c.last_file.result ≡ file_of c.args.target = cc in
    again p c.args.self.now (file_of c.args.target) (Some c.args.target) (λ is. c.last_file.ensures p (ap p same ∙ is))

pub returns : goal.returns
returns c = λ p.
    rw (c.in_ok-push.ensures.items, ← c.self.view_is) (behind p (c.self.inside.first ∷ c.self.inside.others.items) c.args.target)
