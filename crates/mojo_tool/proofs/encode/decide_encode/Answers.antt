use Rattle.std.proofs.Common.{◌≡◌, List, [], ◌∷◌, ℕ, Bor, sym, refl, inl, inr, ◌∙◌}
use Rattle.std.specs.Prelude.{map}
use Rattle.command_line.specs.Asked.{encode_words}
use Rattle.mojo_tool.specs.Work.{Encoding}
use Rattle.mojo_tool.specs.declared.refusal.ToolRefusal.TheVariants as refusals
use Rattle.mojo_tool.proofs.Asking.{ok_goes, err_goes}
use Rattle.mojo_tool.proofs.Fetching.{no_schema_stops}
use Rattle.mojo_tool.proofs.Messages.{of_stops}
use Rattle.mojo_tool.proofs.Deciding.{encode_stops, encode_text, encode_unknown, has_message}
use Rattle.mojo_tool.proofs.Made.{early_stop, late_stops, all_more, also}
use Rattle.mojo_tool.proofs.From.{encode_early, encode_from, encode_lacks}
use Rattle.mojo_tool.proofs.encode.decide_encode.Goals as goal

pub returns-in-Err-clause-stop : goal.returns-in-Err-clause-stop
returns-in-Err-clause-stop g c =
    let now : Bor (List ℕ) → List ℕ = λ name. name.now in
    let words = encode_words c.args.method.now c.args.side c.args.value.now (map now c.args.names.now) in
    no_schema_stops _ _ _ (λ files. Encoding files words) c.in-Err.stop
    c.in-Err.ensures.stop

pub returns-in-Err-clause-reached : goal.returns-in-Err-clause-reached
returns-in-Err-clause-reached g c = of_stops _ _ c.in-Err.stop (λ name among. inl among) c.in-Err.ensures.among

pub returns-in-None-clause-stop : goal.returns-in-None-clause-stop
returns-in-None-clause-stop g c =
    let now : Bor (List ℕ) → List ℕ = λ name. name.now in
    let words = encode_words c.args.method.now c.args.side c.args.value.now (map now c.args.names.now) in
    encode_unknown words c.in-Ok.schema
    (g.F.Files.state c.args.files.now) (g.F.Files.state c.args.files.now) (refusals.UnknownName c.args.method) c.in-Ok.ensures.schema
    (sym (rw c.side_of.ensures at c.message_named.ensures) ∙ c.in-None.is) refl

pub returns-clause-text : goal.returns-clause-text
returns-clause-text g c =
    let now : Bor (List ℕ) → List ℕ = λ name. name.now in
    let words = encode_words c.args.method.now c.args.side c.args.value.now (map now c.args.names.now) in
    ok_goes _ _ _
    (λ text is. encode_text words c.in-Ok.schema _ _ _ (c.in-Some.target, c.in-Some.number) text
    c.in-Ok.ensures.on c.in-Ok.ensures.schema c.in-Ok.ensures.from
    (sym (rw c.side_of.ensures at c.message_named.ensures) ∙ c.in-Some.is) is) c.encode_file.ensures.text

pub returns-clause-stop : goal.returns-clause-stop
returns-clause-stop g c =
    let now : Bor (List ℕ) → List ℕ = λ name. name.now in
    let words = encode_words c.args.method.now c.args.side c.args.value.now (map now c.args.names.now) in
    err_goes _ _ _
    (λ why is. encode_stops words c.in-Ok.schema _ _ _ (c.in-Some.target, c.in-Some.number) why
    c.in-Ok.ensures.on c.in-Ok.ensures.schema (sym (rw c.side_of.ensures at c.message_named.ensures) ∙ c.in-Some.is) is) c.encode_file.ensures.stop

pub returns-clause-reached : goal.returns-clause-reached
returns-clause-reached g c =
    let now : Bor (List ℕ) → List ℕ = λ name. name.now in
    let words = encode_words c.args.method.now c.args.side c.args.value.now (map now c.args.names.now) in
    err_goes _ _ _
    (λ why named. of_stops (λ name. name ≡ c.args.value.now) _ why
    (λ name is. inr (
      is,
      has_message words c.in-Ok.schema _ (c.in-Some.target, c.in-Some.number) c.in-Ok.ensures.schema
          (sym (rw c.side_of.ensures at c.message_named.ensures) ∙ c.in-Some.is),
    )) named)
    c.encode_file.ensures.named

pub returns-in-Err-clause-stopped : goal.returns-in-Err-clause-stopped
returns-in-Err-clause-stopped g c = early_stop _ (c.args.value.now ∷ []) _ _ c.in-Err.stop c.in-Err.ensures.stopped

pub returns-in-None-clause-stopped : goal.returns-in-None-clause-stopped
returns-in-None-clause-stopped g c = c.in-Ok.ensures.whole

pub returns-clause-whole : goal.returns-clause-whole
returns-clause-whole g c = also c.encode_file.result _ _ (all_more _ (c.args.value.now ∷ []) _ _ _ c.in-Ok.ensures.whole) c.encode_file.ensures.whole

pub returns-clause-stopped : goal.returns-clause-stopped
returns-clause-stopped g c =
    late_stops c.encode_file.result _ c.args.value.now _ _ _ c.in-Ok.ensures.whole c.encode_file.ensures.stopped

pub returns-in-Err-clause-refused : goal.returns-in-Err-clause-refused
returns-in-Err-clause-refused g c =
    let now : Bor (List ℕ) → List ℕ = λ name. name.now in
    let words = encode_words c.args.method.now c.args.side c.args.value.now (map now c.args.names.now) in
    encode_early words _ _ c.in-Err.stop c.in-Err.ensures.refused

pub returns-in-None-clause-refused : goal.returns-in-None-clause-refused
returns-in-None-clause-refused g c =
    let now : Bor (List ℕ) → List ℕ = λ name. name.now in
    let words = encode_words c.args.method.now c.args.side c.args.value.now (map now c.args.names.now) in
    encode_lacks words _ _ c.in-Ok.schema (refusals.UnknownName c.args.method) c.in-Ok.ensures.from
    (sym (rw c.side_of.ensures at c.message_named.ensures) ∙ c.in-None.is) refl

pub returns-clause-refused : goal.returns-clause-refused
returns-clause-refused g c =
    let now : Bor (List ℕ) → List ℕ = λ name. name.now in
    let words = encode_words c.args.method.now c.args.side c.args.value.now (map now c.args.names.now) in
    encode_from c.encode_file.result words _ _ _ c.in-Ok.schema
    (c.in-Some.target, c.in-Some.number) c.in-Ok.ensures.from (sym (rw c.side_of.ensures at c.message_named.ensures) ∙ c.in-Some.is)
    c.encode_file.ensures.refused
