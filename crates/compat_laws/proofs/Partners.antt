-- The partner of an interface is the one that is looked up by its name.
use Rattle.std.proofs.Common.{◌≡◌, ℕ, suc, ◌+◌, Bool, true, false, cond, not, List, [], ◌∷◌, length, map, Option, Some, None, refl, sym, ap, ◌∙◌}
use Rattle.std.specs.Prelude.{nat_lt}
use Rattle.std.specs.List.{position_or_len}
use Rattle.std.specs.Str.{bytes_eq}
use Rattle.std.proofs.lemmas.Slice.Eq.{bytes_eq-Decides}
use Rattle.mj_schema.specs.Lookups.{interface_named}
use Rattle.mj_schema.specs.declared.rows.InterfaceRow.{InterfaceRow}
use Rattle.mj_schema.specs.declared.rows.RowSort.TheVariants.{Interface}
use Rattle.mj_schema.specs.declared.schema.Schema.{Schema}
use Rattle.compat_model.specs.Verdicts.{is_name, names_of, partner_of}

-- whether two names are the same doesn't depend on their order
same_order : (x y : List ℕ) (b c : Bool) → bytes_eq x y ≡ b → bytes_eq y x ≡ c → b ≡ c
same_order x y true true h g = refl
same_order x y false false h g = refl
same_order x y true false h g = let e = (bytes_eq-Decides x y).0 h in sym ((bytes_eq-Decides y x).1 (sym e)) ∙ g
same_order x y false true h g = let e = (bytes_eq-Decides y x).0 g in sym h ∙ (bytes_eq-Decides x y).1 (sym e)

-- a name as it can be meant
abbrev meant : InterfaceRow → Option (List ℕ)
meant row = Some row.name

abbrev has_name : List ℕ → InterfaceRow → Bool
has_name name row = bytes_eq row.name name

as_many : (rows : List InterfaceRow) → length (map meant rows) ≡ length rows
as_many [] = refl
as_many (row ∷ rows) = ap suc (as_many rows)

one_place : (name : List ℕ) (rows : List InterfaceRow) → position_or_len (is_name name) (map meant rows) ≡ position_or_len (has_name name) rows
one_place name [] = refl
one_place name (row ∷ rows) =
    ap (λ (b : Bool). cond (not b) (1 + position_or_len (is_name name) (map meant rows)) 0)
    (same_order name row.name (bytes_eq name row.name) (bytes_eq row.name name) refl refl)
    ∙ ap (λ (n : ℕ). cond (not (bytes_eq row.name name)) (1 + n) 0) (one_place name rows)

-- there, or none where there is no place for it
abbrev placed : ℕ → ℕ → Option ℕ
placed place long = cond (nat_lt place long) (Some place) None

pub by_name : (schema : Schema) (name : List ℕ) → partner_of schema Interface name ≡ interface_named schema.interfaces name
by_name schema name =
    ap (λ (place : ℕ). placed place (length (names_of schema Interface))) (one_place name schema.interfaces)
    ∙ ap (placed (position_or_len (has_name name) schema.interfaces)) (as_many schema.interfaces)
