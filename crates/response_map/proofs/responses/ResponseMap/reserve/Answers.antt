use Rattle.std.proofs.Common.{◌≡◌, Option, Some, None, ap, sym, ◌∙◌}
use Rattle.std.specs.BTreeMap.{BTreeMap, Updates}
use Rattle.response_map.specs.declared.key.Key.{Key}
use Rattle.response_map.specs.Contents.{Contents, callbacks_of, with_newest, seen}
use Rattle.response_map.specs.Keys.{key_cmp}
use Rattle.response_map.proofs.Callbacks.{put_in}
use Rattle.response_map.proofs.responses.ResponseMap.reserve.Goals.{in-Some-2, in-None-2}
use Rattle.response_map.proofs.responses.ResponseMap.reserve.Goals as goal

-- the newest callback is now in the tree
moved : {C : Type 0} (o p : Option (Key × C)) (t u : BTreeMap Key C) (n m : Contents C) (k : Key) (c : C)
    → seen o t ≡ n → m ≡ seen p u → o ≡ Some (k, c) → p ≡ None → Updates key_cmp t u k (Some c) → m.callbacks ≡ n.callbacks
moved {C} o p t u n m k c view after e none put =
    ap (λ (y : Contents C). y.callbacks) after
    ∙ ap (λ (y : Option (Key × C)). with_newest y (callbacks_of u)) none
    ∙ put_in t u k c put
    ∙ ap (λ (y : Option (Key × C)). with_newest y (callbacks_of t)) (sym e)
    ∙ ap (λ (y : Contents C). y.callbacks) view

pub returns-in-Ok-clause-same : goal.returns-in-Ok-clause-same
returns-in-Ok-clause-same g c =
    let was = sym c.take.ensures.value ∙ c.in-Some.is in
    let put = c.in-Ok.ensures.updates in
    elim c.match-before.branch [
      | in-Some-2 w ↦ moved c.self.inside.newest c.take.new.self c.self.inside.settled c.insert.new.self c.args.self.now c.match-before.self
          c.in-Some.key c.in-Some.callback c.self.view_is w.self-is was c.take.ensures.after put
      | in-None-2 w ↦ moved c.self.inside.newest c.take.new.self c.self.inside.settled c.insert.new.self c.args.self.now c.match-before.self
          c.in-Some.key c.in-Some.callback c.self.view_is w.self-is was c.take.ensures.after put
    ]
