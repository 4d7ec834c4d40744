-- What a take asks.
use Rattle.std.proofs.Common.{◌≡◌, ℕ, List, length, refl, sym, ◌∙◌, ap, Ok}
use Rattle.std.proofs.lemmas.List.{length-map}
use Rattle.std.specs.Prelude.{map}
use Rattle.std.specs.List.{range_with_len}
use Rattle.mj_schema.specs.declared.schema.Schema.{Schema}
use Rattle.call_script.specs.declared.name_table.Scope.{Scope}
use Rattle.call_script.specs.declared.script.NameId.{NameId}
use Rattle.call_script.specs.declared.script.Command.TheVariants as commands
use Rattle.script_words.specs.Letters.{own_word}
use Rattle.script_forms.specs.Forms.{Take}
use Rattle.call_script.specs.steps.Names.{FindsAt}
use Rattle.call_script.specs.steps.Commands.{Says}
use Rattle.call_script.proofs.TableLemmas.{named_range}

-- the names of a take are those that follow
pub says_take : (schema : Schema) (scope : Scope) (x : List ℕ) (ns : List (List ℕ)) (id : NameId) (ids : List NameId) → FindsAt scope x id
    → map (λ (id : NameId). id.0) ids ≡ range_with_len scope.count (length ns) → Says schema scope (Take x ns) (Ok (commands.Take id ids))
says_take schema scope x ns id ids at range names t k =
    let f = at names (map (own_word scope.seq) ns) t k in
    let h = f.0 in
    let many : length ns ≡ length (map (own_word scope.seq) ns) = sym (length-map ns (own_word scope.seq)) in (
      rw h refl,
      (
        f.1,
        named_range names (map (own_word scope.seq) ns) ids
            (range ∙ (ap (λ n. range_with_len n (length ns)) k ∙ ap (range_with_len (length names)) many)),
      ),
    )
