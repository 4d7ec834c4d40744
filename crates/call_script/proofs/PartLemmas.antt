-- What a line adds, by its form.
use Rattle.std.proofs.Common.{◌≡◌, ◌+◌, ℕ, List, [], ◌∷◌, refl, sym, ap, subst, Ok, Err}
use Rattle.mj_schema.specs.declared.schema.Schema.{Schema}
use Rattle.call_script.specs.declared.commands.Stop.{Stop}
use Rattle.call_script.specs.declared.name_table.NameTable.{NameTable}
use Rattle.call_script.specs.declared.name_table.Scope.{Scope}
use Rattle.call_script.specs.declared.script.Command.TheVariants as commands
use Rattle.script_forms.specs.Forms.{Said, Form, Join, Auto, Of}
use Rattle.call_script.specs.steps.Commands.{Gives, Commands, Says, Replies, Parts}
use Rattle.call_script.proofs.TableLemmas.{slice_behind, slice_second}

-- a join asks for a pipe with the two names that follow
pub asks_join : (schema : Schema) (table : NameTable) (count seq other : ℕ) (x y : List ℕ)
    → Commands schema table count (Join seq other x y) (Ok (commands.Join (record { 0 = other }) (record { 0 = count }) (record { 0 = count + 1 })))
asks_join schema table count seq other x y names t k =
    (refl, (refl, slice_behind names (y ∷ []) x count k, slice_second names x y (count + 1) (ap (λ n. n + 1) k)))

-- an automatic reply that is refused
pub reply_stops : (schema : Schema) (table : NameTable) (count number : ℕ) (form : Form) (seq : ℕ) (method word : List ℕ) (stop : Stop)
    → form ≡ Auto seq method word → Replies schema (Auto seq method word) (Err stop) → Parts schema table count number form (Err stop)
reply_stops schema table count number form seq method word stop is refused =
    λ names t k. subst (λ (f : Form). Gives schema names f (Err stop)) (sym is) (refused names)

-- a line of a sequence that is refused
pub said_stops : (schema : Schema) (scope : Scope) (number : ℕ) (form : Form) (said : Said) (stop : Stop)
    → form ≡ Of scope.seq said → Says schema scope said (Err stop) → Parts schema scope.table.now scope.count number form (Err stop)
said_stops schema scope number form said stop is refused =
    subst (λ (f : Form). Commands schema scope.table.now scope.count f (Err stop)) (sym is) refused
