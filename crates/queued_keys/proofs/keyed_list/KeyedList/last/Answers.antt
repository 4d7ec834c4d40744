use Rattle.std.proofs.Common.{◌-◌, List, length, ap, ◌∙◌}
use Rattle.std.specs.Prelude.{slice_get}
use Rattle.queued_keys.specs.declared.keyed_end.KeyedEnd.{KeyedEnd}
use Rattle.queued_keys.proofs.keyed_list.KeyedList.last.Goals as goal

pub returns : goal.returns
returns c = c.last.ensures.value
    ∙ ap (λ (es : List KeyedEnd). slice_get es (length es - 1)) (c.as_slice.ensures.value ∙ c.self.view_is)
