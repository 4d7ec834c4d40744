use Rattle.std.proofs.Common.{Some, is_some, ap, sym, ◌∙◌}
use Rattle.response_map.proofs.Callbacks.{get_in}
use Rattle.response_map.proofs.Beside.{IsOther, same_keys, other_keys, other_with, other_without, get_found, get_beside}
use Rattle.response_map.proofs.responses.ResponseMap.contains.Goals.{in_default-via-in-Some+else-eq, in_default-via-in_default}
use Rattle.response_map.proofs.responses.ResponseMap.contains.Goals as goal

pub returns-in-Some : goal.returns-in-Some
returns-in-Some g c =
    ap is_some (sym (get_found c.self.inside.newest c.self.inside.settled c.args.self.now c.args.key c.in-Some._callback c.self.view_is
    (c.in-Some.is ∙ ap (λ key. Some (key, c.in-Some._callback)) (same_keys c.in-Some.newest c.args.key (sym c.eq.ensures ∙ c.if-eq.true)))))

pub returns-in_default : goal.returns-in_default
returns-in_default g c =
    let other : IsOther c.self.inside.newest c.args.key = elim c.in_default.branch [
      | in_default-via-in-Some+else-eq w ↦ other_with c.self.inside.newest c.args.key w.in-Some.newest w.in-Some._callback w.in-Some.is
          (other_keys w.in-Some.newest c.args.key (sym w.eq.ensures ∙ w.if-eq.false))
      | in_default-via-in_default w ↦ other_without c.self.inside.newest c.args.key w.in_default.is
    ] in
    c.contains_key.ensures
    ∙ ap is_some (sym (get_in c.self.inside.settled c.args.key)
    ∙ get_beside c.self.inside.newest c.self.inside.settled c.args.self.now c.args.key c.self.view_is other)
