use Rattle.std.proofs.Common.{◌∙◌, ap}
use Rattle.script_words.specs.Letters.{own_word}
use Rattle.call_script.proofs.TableLemmas.{finds_join, finds_either}
use Rattle.call_script.proofs.name_table.find_name.Goals as goal

pub returns-in-Some : goal.returns-in-Some
returns-in-Some c =
    finds_join c.args.scope.now c.args.name.now c.in-Some.id (rw c.text_of-text.ensures at c.in-Some.ensures.found)

pub returns : goal.returns
returns c =
    finds_either c.args.scope.now c.args.name.now c.as_str.result.now _
    (c.as_str.ensures.value ∙ (c.in_ok-own.ensures ∙ ap (own_word c.args.scope.now.seq) c.text_of-text.ensures))
    (rw c.text_of-text.ensures at c.in_default.ensures.none) c.find-2.ensures.found c.find-2.ensures.none
