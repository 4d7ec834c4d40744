-- Reading a file by the attributes that it begins with.
use Rattle.std.proofs.Common.{◌≡◌, ℕ, List, [], ◌∷◌, length, Option, Some, None, Ok, Err, true, false, refl, ◌∙◌}
use Rattle.mj_base.specs.declared.limits.TheConstants.{MAX_NESTED_TYPES}
use Rattle.mojom_ast.specs.declared.classes.TheConstants.{MODULE}
use Rattle.mojom_ast.specs.declared.fault.Fault.{Fault}
use Rattle.mojom_ast.specs.declared.token.Token.{Token}
use Rattle.mojom_ast.specs.declared.attributes.Attribute.{Attribute}
use Rattle.mojom_ast.specs.declared.file.File.{File}
use Rattle.mojom_ast.specs.Trees.{make_file}
use Rattle.mojom_ast.specs.Lang.{Read, ◌>>=◌, front_in}
use Rattle.mojom_ast.specs.Grammar.{attributes, bracketed, module_name, import_path, definition_item, struct_of, union_of, enum_of, interface_of, const_of}
use Rattle.grammar_laws.specs.steps.Factored.{Statement, Opening, OtherLine, opened, opened_by, file_starts, module_line, statement, first_statement, opening, factored}
use Rattle.mojom_parser.specs.declared.error.ReadError.{ReadError}
use Rattle.mojom_parser.specs.declared.error.ReadError.TheVariants as causes
use Rattle.mojom_parser.specs.steps.Reading.{Fails, lines, file_with, file_without}

collapse : (a : List Attribute) (r : Read Opening) → ◌>>=◌ {A = Option (List Attribute × Opening) × List Token} {B = File × List Token}
    (◌>>=◌ {A = (List Attribute × Opening) × List Token} {B = Option (List Attribute × Opening) × List Token}
    (◌>>=◌ {A = Opening × List Token} {B = (List Attribute × Opening) × List Token} r (λ y. Ok ((a, y.0), y.1))) (λ z. Ok (Some z.0, z.1)))
    (λ w. Ok (opened w.0, w.1)) ≡ ◌>>=◌ {A = Opening × List Token} {B = File × List Token} r (λ y. Ok (opened_by a y.0, y.1))
collapse a (Ok y) = refl
collapse a (Err f) = refl

of_other : (a : List Attribute) (r : Read Statement) → ◌>>=◌ {A = Opening × List Token} {B = File × List Token}
    (◌>>=◌ {A = Statement × List Token} {B = Opening × List Token} r (λ x. Ok (OtherLine x.0, x.1))) (λ y. Ok (opened_by a y.0, y.1)) ≡
    ◌>>=◌ {A = Statement × List Token} {B = File × List Token} r (λ x. Ok (opened_by a (OtherLine x.0), x.1))
of_other a (Ok x) = refl
of_other a (Err f) = refl

-- nothing begins
pub reads_empty : (ts : List Token) → front_in file_starts ts ≡ false → (factored MAX_NESTED_TYPES).read ts ≡ Ok (make_file (None, ([], [])), ts)
unfolding factored opening attributes bracketed module_name import_path definition_item struct_of union_of enum_of interface_of const_of
reads_empty ts b = rw b refl

stops : (ts : List Token) (f : Fault) → front_in file_starts ts ≡ true → attributes.read ts ≡ Err f → (factored MAX_NESTED_TYPES).read ts ≡ Err f
unfolding factored opening attributes bracketed module_name import_path definition_item struct_of union_of enum_of interface_of const_of
stops ts f b h = rw (b, h) refl

-- the attributes stop
pub reads_no_attributes : (ts : List Token) (e : ReadError) → front_in file_starts ts ≡ true → Fails e (attributes.read ts) → Fails e
    ((factored MAX_NESTED_TYPES).read ts)
reads_no_attributes ts causes.Memory b h = tt
reads_no_attributes ts (causes.Fault f) b h = stops ts f b h

module _ (ts : List Token) (a : List Attribute) (after : List Token) (b : front_in file_starts ts ≡ true) (h : attributes.read ts ≡ Ok (a, after)) where
  abbrev others : ℕ
  others = length ts

  behind : (factored MAX_NESTED_TYPES).read ts ≡
      ((first_statement (lines others) others MAX_NESTED_TYPES).read after >>= λ y. Ok (opened_by a y.0, y.1))
  unfolding factored opening attributes bracketed module_name import_path definition_item struct_of union_of enum_of interface_of const_of
  behind = rw (b, h) (collapse a ((first_statement (lines others) others MAX_NESTED_TYPES).read after))

  -- a module statement stands behind them
  pub reads_module : front_in (MODULE ∷ []) after ≡ true → (factored MAX_NESTED_TYPES).read ts ≡ (file_with a (module_line (lines others))).read after
  unfolding module_name
  reads_module d = behind ∙ rw d refl

  -- something else does
  pub reads_other : front_in (MODULE ∷ []) after ≡ false → (factored MAX_NESTED_TYPES).read ts ≡
      (file_without a (statement (lines others) others MAX_NESTED_TYPES)).read after
  unfolding module_name
  reads_other d = behind ∙ rw d (of_other a ((statement (lines others) others MAX_NESTED_TYPES).read after))
