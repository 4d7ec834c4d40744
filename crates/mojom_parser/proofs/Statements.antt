-- Reading imports and definitions in a loop.
use Rattle.std.proofs.Common.{◌≡◌, ℕ, suc, ◌-◌, ◌+◌, ◌≤◌, ◌<◌, List, [], ◌∷◌, ◌++◌, Option, Some, Ok, Err, true, false, refl, sym, ap, ◌∙◌, append_assoc, arith}
use Rattle.std.proofs.lemmas.List.{append-nil}
use Rattle.mj_base.specs.declared.limits.TheConstants.{MAX_NESTED_TYPES}
use Rattle.mojom_ast.specs.declared.fault.Fault.{Fault}
use Rattle.mojom_ast.specs.declared.token.Token.{Token}
use Rattle.mojom_ast.specs.declared.names.StringLiteral.{StringLiteral}
use Rattle.mojom_ast.specs.declared.attributes.Attribute.{Attribute}
use Rattle.mojom_ast.specs.declared.definitions.Definition.{Definition}
use Rattle.mojom_ast.specs.declared.definitions.DefinitionItem.{DefinitionItem}
use Rattle.mojom_ast.specs.declared.file.Import.{Import}
use Rattle.mojom_ast.specs.Trees.{make_definition, make_import}
use Rattle.mojom_ast.specs.Lang.{Lang, Read, ◌>>=◌, front_in, ◌▹◌, as_value, maybe, times}
use Rattle.mojom_ast.specs.Grammar.{attributes, bracketed, definition_item, definition, struct_of, union_of, enum_of, interface_of, const_of, import_path}
use Rattle.grammar_laws.specs.steps.Factored.{Statements, Statement, DefinitionLine, ImportLine, gathered, attributed, statement_starts, statement, statements}
use Rattle.mojom_parser.specs.declared.error.ReadError.{ReadError}
use Rattle.mojom_parser.specs.declared.error.ReadError.TheVariants as causes
use Rattle.mojom_parser.specs.steps.Reading.{Fails, with_imports}
use Rattle.mojom_parser.proofs.Loops.{fault_of}

regroup : (front : List Import) (x : Import) (read : Read Statements) → with_imports front (read >>= λ y. Ok ((x ∷ y.0.0, y.0.1), y.1)) ≡ with_imports
    (front ++ x ∷ []) read
regroup front x (Ok y) = ap (λ (xs : List Import). Ok ((xs, y.0.1), y.1)) (simp append_assoc)
regroup front x (Err f) = refl

-- the definitions that are read behind attributes
abbrev pub definitions_read : ℕ → List Attribute → List Token → Read (List Definition)
definitions_read l a ts = (as_value (λ x. make_definition (a, x.0) ∷ x.1) (definition_item MAX_NESTED_TYPES ▹ times l (definition MAX_NESTED_TYPES))).read ts

collapse : (a : List Attribute) (r : Read Statement) → ◌>>=◌ {A = Option (List Attribute × Statement) × List Token} {B = Statements × List Token}
    (◌>>=◌ {A = (List Attribute × Statement) × List Token} {B = Option (List Attribute × Statement) × List Token}
    (◌>>=◌ {A = Statement × List Token} {B = (List Attribute × Statement) × List Token} r (λ y. Ok ((a, y.0), y.1))) (λ z. Ok (Some z.0, z.1)))
    (λ w. Ok (gathered w.0, w.1)) ≡ ◌>>=◌ {A = Statement × List Token} {B = Statements × List Token} r (λ y. Ok (attributed a y.0, y.1))
collapse a (Ok y) = refl
collapse a (Err f) = refl

after_definitions : (a : List Attribute) (r : Read (DefinitionItem × List Definition)) → ◌>>=◌ {A = Statement × List Token} {B = Statements × List Token}
    (◌>>=◌ {A = (DefinitionItem × List Definition) × List Token} {B = Statement × List Token} r (λ x. Ok (DefinitionLine x.0.0 x.0.1, x.1)))
    (λ y. Ok (attributed a y.0, y.1)) ≡ ◌>>=◌ {A = List Definition × List Token} {B = Statements × List Token}
    (◌>>=◌ {A = (DefinitionItem × List Definition) × List Token} {B = List Definition × List Token} r (λ x. Ok (make_definition (a, x.0.0) ∷ x.0.1, x.1)))
    (λ x. Ok (([], x.0), x.1))
after_definitions a (Ok x) = refl
after_definitions a (Err f) = refl

after_import : (a : List Attribute) (path : StringLiteral) (r : Read Statements) → ◌>>=◌ {A = Statement × List Token} {B = Statements × List Token}
    (◌>>=◌ {A = (StringLiteral × Statements) × List Token} {B = Statement × List Token}
    (◌>>=◌ {A = Statements × List Token} {B = (StringLiteral × Statements) × List Token} r (λ y. Ok ((path, y.0), y.1)))
    (λ x. Ok (ImportLine x.0.0 x.0.1, x.1))) (λ y. Ok (attributed a y.0, y.1)) ≡ ◌>>=◌ {A = Statements × List Token} {B = Statements × List Token} r
    (λ y. Ok ((make_import (a, path) ∷ y.0.0, y.0.1), y.1))
after_import a path (Ok x) = refl
after_import a path (Err f) = refl

-- one round, whatever reads what comes after an import
module _ (others : Lang Statements) (l : ℕ) where
  abbrev round : List Token → Read Statements
  round ts = (as_value gathered (maybe (attributes ▹ statement others l MAX_NESTED_TYPES))).read ts

  -- what is read behind the attributes, with them
  abbrev behind : List Attribute → List Token → Read Statements
  behind a ts = (statement others l MAX_NESTED_TYPES).read ts >>= λ y. Ok (attributed a y.0, y.1)

  round_on : (ts : List Token) (a : List Attribute) (after : List Token) → front_in statement_starts ts ≡ true → attributes.read ts ≡ Ok (a, after)
      → round ts ≡ behind a after
  unfolding attributes bracketed definition_item struct_of union_of enum_of interface_of const_of import_path
  round_on ts a after b h = rw (b, h) (collapse a ((statement others l MAX_NESTED_TYPES).read after))

  round_off : (ts : List Token) → front_in statement_starts ts ≡ false → round ts ≡ Ok (([], []), ts)
  unfolding attributes bracketed definition_item struct_of union_of enum_of interface_of const_of import_path
  round_off ts b = rw b refl

  round_end : (ts : List Token) (f : Fault) → front_in statement_starts ts ≡ true → attributes.read ts ≡ Err f → round ts ≡ Err f
  unfolding attributes bracketed definition_item struct_of union_of enum_of interface_of const_of import_path
  round_end ts f b h = rw (b, h) refl

  on_definitions : (a : List Attribute) (ts : List Token) → front_in (definition_item MAX_NESTED_TYPES).starts ts ≡ true
      → behind a ts ≡ ◌>>=◌ {A = List Definition × List Token} {B = Statements × List Token} (definitions_read l a ts) (λ x. Ok (([], x.0), x.1))
  unfolding definition_item import_path struct_of union_of enum_of interface_of const_of times
  on_definitions a ts b = rw b (after_definitions a ((definition_item MAX_NESTED_TYPES ▹ times l (definition MAX_NESTED_TYPES)).read ts))

  on_import : (a : List Attribute) (ts : List Token) (path : StringLiteral) (next : List Token)
      → front_in (definition_item MAX_NESTED_TYPES).starts ts ≡ false → import_path.read ts ≡ Ok (path, next) → behind a ts ≡
      (others.read next >>= λ y. Ok ((make_import (a, path) ∷ y.0.0, y.0.1), y.1))
  unfolding definition_item import_path struct_of union_of enum_of interface_of const_of times
  on_import a ts path next b h = rw (b, h) (after_import a path (others.read next))

  no_import : (a : List Attribute) (ts : List Token) (f : Fault) → front_in (definition_item MAX_NESTED_TYPES).starts ts ≡ false → import_path.read ts ≡ Err f
      → behind a ts ≡ Err f
  unfolding definition_item import_path struct_of union_of enum_of interface_of const_of times
  no_import a ts f b h = rw (b, h) refl

-- the loop over imports, each with its attributes, and the definitions behind them
module _ (l : ℕ) where
  -- an import was read
  pub goes_on : (front : List Import) (count i : ℕ) (ts : List Token) (x : Import) (next : List Token) (total : Read Statements) → i < count
      → ((n : ℕ) → (statements (suc n) l MAX_NESTED_TYPES).read ts ≡ ((statements n l MAX_NESTED_TYPES).read next >>= λ y. Ok ((x ∷ y.0.0, y.0.1), y.1)))
      → with_imports front ((statements (count - i) l MAX_NESTED_TYPES).read ts) ≡ total → with_imports (front ++ x ∷ [])
      ((statements (count - (i + 1)) l MAX_NESTED_TYPES).read next) ≡ total
  goes_on front count i ts x next total lt step so_far =
      let k : count - i ≡ suc (count - (i + 1)) = omega arith in
      let one_more : with_imports front ((statements (count - i) l MAX_NESTED_TYPES).read ts) ≡ with_imports (front ++ x ∷ [])
      ((statements (count - (i + 1)) l MAX_NESTED_TYPES).read next)
      = ap (λ (n : ℕ). with_imports front ((statements n l MAX_NESTED_TYPES).read ts)) k ∙ ap (λ (r : Read Statements). with_imports front r)
      (step (count - (i + 1))) ∙ regroup front x ((statements (count - (i + 1)) l MAX_NESTED_TYPES).read next) in
      sym one_more ∙ so_far

  finishes : (front : List Import) (count i : ℕ) (ts : List Token) (total r : Read Statements) → i < count
      → ((n : ℕ) → (statements (suc n) l MAX_NESTED_TYPES).read ts ≡ r) → with_imports front ((statements (count - i) l MAX_NESTED_TYPES).read ts) ≡ total
      → total ≡ with_imports front r
  finishes front count i ts total r lt step so_far =
      let k : count - i ≡ suc (count - (i + 1)) = omega arith in
      let last : with_imports front ((statements (count - i) l MAX_NESTED_TYPES).read ts) ≡ with_imports front r = ap
      (λ (n : ℕ). with_imports front ((statements n l MAX_NESTED_TYPES).read ts)) k ∙ ap (λ (q : Read Statements). with_imports front q)
      (step (count - (i + 1))) in
      sym so_far ∙ last

  -- the reading stopped
  pub ends : (e : ReadError) (front : List Import) (count i : ℕ) (ts : List Token) (total : Read Statements) → i < count
      → ((f : Fault) → e ≡ causes.Fault f → (n : ℕ) → (statements (suc n) l MAX_NESTED_TYPES).read ts ≡ Err f)
      → with_imports front ((statements (count - i) l MAX_NESTED_TYPES).read ts) ≡ total → Fails e total
  ends causes.Memory front count i ts total lt step so_far = tt
  ends (causes.Fault f) front count i ts total lt step so_far = finishes front count i ts total (Err f) lt (step f refl) so_far

  -- nothing more begins, or definitions were read
  pub halts : (front : List Import) (count i : ℕ) (ts rest : List Token) (definitions : List Definition) (total : Read Statements) → i < count
      → ((n : ℕ) → (statements (suc n) l MAX_NESTED_TYPES).read ts ≡ Ok (([], definitions), rest)) → with_imports front
      ((statements (count - i) l MAX_NESTED_TYPES).read ts) ≡ total → total ≡ Ok ((front, definitions), rest)
  halts front count i ts rest definitions total lt step so_far = finishes front count i ts total (Ok (([], definitions), rest)) lt step so_far
      ∙ ap (λ (xs : List Import). Ok ((xs, definitions), rest)) (append-nil front)

  -- the loop came to its last round
  pub is_done : (front : List Import) (count i : ℕ) (ts : List Token) (total : Read Statements) → count ≤ i → with_imports front
      ((statements (count - i) l MAX_NESTED_TYPES).read ts) ≡ total → total ≡ Ok ((front, []), ts)
  unfolding statements
  is_done front count i ts total le so_far =
      let k : count - i ≡ 0 = omega arith in
      let last : with_imports front ((statements (count - i) l MAX_NESTED_TYPES).read ts) ≡ Ok ((front, []), ts) = ap
      (λ (n : ℕ). with_imports front ((statements n l MAX_NESTED_TYPES).read ts)) k ∙ ap (λ (xs : List Import). Ok ((xs, []), ts)) (append-nil front) in
      sym so_far ∙ last

  -- nothing begins here
  pub step_off : (ts : List Token) → front_in statement_starts ts ≡ false → (n : ℕ) → (statements (suc n) l MAX_NESTED_TYPES).read ts ≡ Ok (([], []), ts)
  unfolding statements
  step_off ts b n = round_off (statements n l MAX_NESTED_TYPES) l ts b

  -- the attributes stop
  pub step_end : (ts : List Token) (e : ReadError) → front_in statement_starts ts ≡ true → Fails e (attributes.read ts) → (f : Fault) → e ≡ causes.Fault f
      → (n : ℕ) → (statements (suc n) l MAX_NESTED_TYPES).read ts ≡ Err f
  unfolding statements
  step_end ts e b h f same n = round_end (statements n l MAX_NESTED_TYPES) l ts f b (fault_of e f (attributes.read ts) same h)

  -- definitions are read behind the attributes
  pub step_definitions : (ts : List Token) (a : List Attribute) (after : List Token) (definitions : List Definition) (rest : List Token)
      → front_in statement_starts ts ≡ true → attributes.read ts ≡ Ok (a, after) → front_in (definition_item MAX_NESTED_TYPES).starts after ≡ true
      → definitions_read l a after ≡ Ok (definitions, rest) → (n : ℕ) → (statements (suc n) l MAX_NESTED_TYPES).read ts ≡ Ok (([], definitions), rest)
  unfolding statements
  step_definitions ts a after definitions rest b h d k n = round_on (statements n l MAX_NESTED_TYPES) l ts a after b h ∙ on_definitions
      (statements n l MAX_NESTED_TYPES) l a after d ∙ ap (λ (r : Read (List Definition)). ◌>>=◌ {A = List Definition × List Token}
      {B = Statements × List Token} r (λ x. Ok (([], x.0), x.1))) k

  -- the definitions stop
  pub end_definitions : (ts : List Token) (a : List Attribute) (after : List Token) (e : ReadError) → front_in statement_starts ts ≡ true
      → attributes.read ts ≡ Ok (a, after) → front_in (definition_item MAX_NESTED_TYPES).starts after ≡ true → Fails e (definitions_read l a after)
      → (f : Fault) → e ≡ causes.Fault f → (n : ℕ) → (statements (suc n) l MAX_NESTED_TYPES).read ts ≡ Err f
  unfolding statements
  end_definitions ts a after e b h d k f same n = round_on (statements n l MAX_NESTED_TYPES) l ts a after b h ∙ on_definitions
      (statements n l MAX_NESTED_TYPES) l a after d ∙ ap (λ (r : Read (List Definition)). ◌>>=◌ {A = List Definition × List Token}
      {B = Statements × List Token} r (λ x. Ok (([], x.0), x.1))) (fault_of e f (definitions_read l a after) same k)

  -- an import is read behind the attributes
  pub step_import : (ts : List Token) (a : List Attribute) (after : List Token) (path : StringLiteral) (next : List Token)
      → front_in statement_starts ts ≡ true → attributes.read ts ≡ Ok (a, after) → front_in (definition_item MAX_NESTED_TYPES).starts after ≡ false
      → import_path.read after ≡ Ok (path, next) → (n : ℕ) → (statements (suc n) l MAX_NESTED_TYPES).read ts ≡
      ((statements n l MAX_NESTED_TYPES).read next >>= λ y. Ok ((make_import (a, path) ∷ y.0.0, y.0.1), y.1))
  unfolding statements
  step_import ts a after path next b h d k n = round_on (statements n l MAX_NESTED_TYPES) l ts a after b h
      ∙ on_import (statements n l MAX_NESTED_TYPES) l a after path next d k

  -- the import stops
  pub end_import : (ts : List Token) (a : List Attribute) (after : List Token) (e : ReadError) → front_in statement_starts ts ≡ true → attributes.read ts ≡ Ok
      (a, after) → front_in (definition_item MAX_NESTED_TYPES).starts after ≡ false → Fails e (import_path.read after) → (f : Fault) → e ≡ causes.Fault f
      → (n : ℕ) → (statements (suc n) l MAX_NESTED_TYPES).read ts ≡ Err f
  unfolding statements
  end_import ts a after e b h d k f same n = round_on (statements n l MAX_NESTED_TYPES) l ts a after b h
      ∙ no_import (statements n l MAX_NESTED_TYPES) l a after f d (fault_of e f (import_path.read after) same k)
