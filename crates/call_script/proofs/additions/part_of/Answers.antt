use Rattle.std.proofs.Common.{sym, ap, subst, refl, ◌+◌, Ok}
use Rattle.std.proofs.lemmas.Result.{err_from_is_err_and}
use Rattle.call_script.specs.declared.additions.Part.TheVariants as parts
use Rattle.call_script.specs.declared.script.Command.TheVariants as commands
use Rattle.call_script.specs.steps.Commands.{Parts}
use Rattle.script_forms.specs.Views.{form_view}
use Rattle.call_script.proofs.PartLemmas.{asks_join, reply_stops, said_stops}
use Rattle.call_script.proofs.additions.part_of.Goals as goal

pub returns-in-Join : goal.returns-in-Join
returns-in-Join c =
    subst
    (λ form. Parts c.args.indexed.now.schema.now c.args.table.now c.args.count c.args.number (form_view form) (Ok (parts.Line (record {
      number = c.args.number;
      seq = record { 0 = c.in-Join.seq };
      command = commands.Join (record { 0 = c.in-Join.other }) (record { 0 = c.args.count }) (record { 0 = c.args.count + 1 });
    }))))
    (sym c.in-Join.is) (
      refl,
      refl,
      asks_join c.args.indexed.now.schema.now c.args.table.now c.args.count c.in-Join.seq c.in-Join.other c.in-Join.field-2.now
          c.in-Join.field-3.now,
    )

pub returns-in_err-reply-in-Auto : goal.returns-in_err-reply-in-Auto
returns-in_err-reply-in-Auto c =
    let p = err_from_is_err_and c.from_residual.result c.from_residual.ensures.1 in
    rw (p.1, p.2) (
    reply_stops c.args.indexed.now.schema.now c.args.table.now c.args.count c.args.number (form_view c.args.form.now) c.in-Auto.seq c.in-Auto.method.now
    c.in-Auto.value.now _ (ap form_view c.in-Auto.is) c.in_err-reply-in-Auto.ensures
    )

pub returns-in_err-command-in-Of : goal.returns-in_err-command-in-Of
returns-in_err-command-in-Of c =
    let p = err_from_is_err_and c.from_residual-in_err-command-in-Of.result c.from_residual-in_err-command-in-Of.ensures.1 in
    rw (p.1, p.2) (
    said_stops c.args.indexed.now.schema.now (record { table = c.args.table; count = c.args.count; seq = c.in-Of.seq }) c.args.number
    (form_view c.args.form.now) _ _ (ap form_view c.in-Of.is) c.in_err-command-in-Of.ensures
    )
