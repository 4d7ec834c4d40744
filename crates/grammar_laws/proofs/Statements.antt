-- The laws of the factored rule of a file.
use Rattle.std.proofs.Common.{◌≡◌, Ok, ℕ, zero, suc, ◌-◌, ◌≤◌, ◌<◌, List, [], ◌∷◌, ◌++◌, length, false, Some, cond, inl, inr, refl, subst, arith, length-append}
use Rattle.mojom_ast.specs.declared.classes.TheConstants.{OPEN_BRACKET, IMPORT, MODULE, STRUCT, UNION, ENUM, INTERFACE, CONST}
use Rattle.mojom_ast.specs.declared.token.Token.{Token}
use Rattle.mojom_ast.specs.Lang.{Lang, has, ◌▹◌, as_value, maybe, maybe_read, times, any}
use Rattle.mojom_ast.specs.Grammar.{attributes, bracketed, definition_item, definition, struct_of, union_of, enum_of, interface_of, const_of, module_name, import_path}
use Rattle.grammar_laws.specs.steps.Factored.{Statements, DefinitionLine, ImportLine, ModuleLine, OtherLine, definition_line, import_line, module_line, first_statement, gathered, opened, definition_starts, statement_starts, marked, statement, statements, opening, factored}
use Rattle.grammar_laws.proofs.Asks.{mode_of}
use Rattle.grammar_laws.proofs.Shows.{Shows, shows_value, shows_seq, shows_or, shows_maybe, shows_times, shows_any}
use Rattle.grammar_laws.proofs.Opens.{Front, Opens, opens_value, opens_seq, opens_or, opens_maybe}
use Rattle.grammar_laws.proofs.Finds.{Finds, cut, cut_of, value_outcome, finds_value, finds_seq, finds_or, skipped, finds_maybe, lacks_left}
use Rattle.grammar_laws.proofs.Lists.{Good, takes, shorter, lacks_both, lacks_cond, finds_more, fits_map, opens_all, finds_times, opens_any}
use Rattle.grammar_laws.proofs.Values.{good_attributes}
use Rattle.grammar_laws.proofs.Definitions.{good_definition_item, good_definition, good_module_name, good_import_path}

statements_starts : (n l k : ℕ) → (statements n l k).starts ≡ statement_starts
unfolding statements attributes bracketed definition_item struct_of union_of enum_of interface_of const_of import_path
statements_starts zero l k = refl
statements_starts (suc n) l k = refl

-- a rule of a level shows, and opens, with itself
module _ (k : ℕ) where
  shows_line : (l : ℕ) → Shows (definition_line l k)
  shows_line l = shows_value (λ x. DefinitionLine x.0 x.1) (definition_item k ▹ times l (definition k))
      (shows_seq (definition_item k) (times l (definition k)) (good_definition_item k k).shows (shows_times l (definition k) (good_definition k k).shows))

  shows_import : (others : Lang Statements) → Shows others → Shows (import_line others)
  shows_import others t = shows_value (λ x. ImportLine x.0 x.1) (import_path ▹ marked others)
      (shows_seq import_path (marked others) (good_import_path ⊥).shows t)

  shows_statement : (l : ℕ) (others : Lang Statements) → Shows others → Shows (statement others l k)
  shows_statement l others t = shows_or (definition_line l k) (import_line others) (shows_line l) (shows_import others t)

  shows_statements : (n l : ℕ) → Shows (statements n l k)
  unfolding statements
  shows_statements zero l ts = ([], refl, λ m K q x. x)
  shows_statements (suc n) l ts = shows_value gathered (maybe (attributes ▹ statement (statements n l k) l k))
      (shows_maybe (attributes ▹ statement (statements n l k) l k) (shows_seq attributes (statement (statements n l k) l k) (good_attributes ⊥).shows
      (shows_statement l (statements n l k) (shows_statements n l)))) ts

  definition_null : (definition k).null ≡ false
  unfolding definition attributes bracketed definition_item struct_of union_of enum_of interface_of const_of
  definition_null = refl

  opens_line : (l : ℕ) → Opens (definition_line l k)
  opens_line l = opens_value (λ x. DefinitionLine x.0 x.1) (definition_item k ▹ times l (definition k))
      (opens_seq (definition_item k) (times l (definition k)) (good_definition_item k k).opens
      (opens_all (k ≡ k) [] (definition k) (definition k) (good_definition k k) definition_null definition_null l))

  opens_marked : (others : Lang Statements) → Opens others → others.starts ≡ statement_starts → Opens (marked others)
  opens_marked others o same m K p h = elim (o m K p h) [ inl f ↦ inl (subst (λ (cs : List ℕ). Front m cs p) same f) | inr n ↦ inr (refl, n.1) ]

  opens_import : (others : Lang Statements) → Opens others → others.starts ≡ statement_starts → Opens (import_line others)
  opens_import others o same = opens_value (λ x. ImportLine x.0 x.1) (import_path ▹ marked others)
      (opens_seq import_path (marked others) (good_import_path ⊥).opens (opens_marked others o same))

  opens_statement : (l : ℕ) (others : Lang Statements) → Opens others → others.starts ≡ statement_starts → Opens (statement others l k)
  opens_statement l others o same = opens_or (definition_line l k) (import_line others) (opens_line l) (opens_import others o same)

  opens_statements : (n l : ℕ) → Opens (statements n l k)
  unfolding statements
  opens_statements zero l m K p h = inr (refl, (([], []), h))
  opens_statements (suc n) l m K p h = opens_value gathered (maybe (attributes ▹ statement (statements n l k) l k))
      (opens_maybe (attributes ▹ statement (statements n l k) l k) (opens_seq attributes (statement (statements n l k) l k) (good_attributes ⊥).opens
      (opens_statement l (statements n l k) (opens_statements n l) (statements_starts n l k)))) m K p h

module _ (j k : ℕ) where
  shrinks : {A : Type 0} (two : Lang A) → Opens two → two.null ≡ false → Shows two → (b : ℕ) (ts : List Token) (x : A) (rest : List Token) → two.read ts ≡ Ok
      (x, rest) → length ts ≤ b → length rest ≤ b - 1
  shrinks two o e t b ts x rest eq le = let less : length rest < length ts = takes two o e t ts x rest eq in omega arith

  finds_line : (l l' b : ℕ) → b ≤ l' → Finds b (j ≡ k) definition_starts (definition_line l j) (definition_line l' k)
  unfolding definition attributes bracketed definition_item struct_of union_of enum_of interface_of const_of
  finds_line l l' b bl = finds_more b (j ≡ k) (cond (times l (definition j)).null (definition_starts ++ []) definition_starts) definition_starts
      (definition_line l j) (definition_line l' k) (λ c e. lacks_cond (times l (definition j)).null definition_starts [] c e refl)
      (finds_value b (j ≡ k) (cond (times l (definition j)).null (definition_starts ++ []) definition_starts) (λ x. DefinitionLine x.0 x.1)
      (definition_item j ▹ times l (definition j)) (definition_item k ▹ times l' (definition k))
      (finds_seq b (b - 1) (j ≡ k) [] definition_starts (definition_item j) (definition_item k) (times l (definition j)) (times l' (definition k))
      (opens_all (j ≡ k) [] (definition j) (definition k) (good_definition j k) refl refl l) refl ((good_definition_item j k).finds b)
      (finds_times (j ≡ k) [] (definition j) (definition k) (good_definition j k) refl refl refl l l' (b - 1) (omega arith))
      (shows_times l' (definition k) (good_definition j k).shows) (shrinks (definition_item k) (good_definition_item k k).opens refl
      (good_definition_item k k).shows b)))

  -- what a statement goes on with, as it comes out
  abbrev statement_more : List ℕ
  statement_more = definition_starts ++ statement_starts

  finds_import : (s1 s2 : Lang Statements) → Opens s1 → s1.starts ≡ statement_starts → Shows s2 → (b : ℕ) → Finds (b - 1) (j ≡ k) statement_starts s1 s2
      → Finds b (j ≡ k) statement_starts (import_line s1) (import_line s2)
  unfolding import_path
  finds_import s1 s2 o1 e1 t2 b f = finds_value b (j ≡ k) statement_starts (λ x. ImportLine x.0 x.1) (import_path ▹ marked s1) (import_path ▹ marked s2)
      (finds_seq b (b - 1) (j ≡ k) [] statement_starts import_path import_path (marked s1) (marked s2) (opens_marked j s1 o1 e1) refl
      ((good_import_path (j ≡ k)).finds b) f t2 (shrinks import_path (good_import_path ⊥).opens refl (good_import_path ⊥).shows b))

  finds_statement : (s1 s2 : Lang Statements) → Opens s1 → s1.starts ≡ statement_starts → Shows s2 → (l l' b : ℕ) → b ≤ l' → Finds (b - 1)
      (j ≡ k) statement_starts s1 s2 → Finds b (j ≡ k) statement_more (statement s1 l j) (statement s2 l' k)
  unfolding import_path definition_item struct_of union_of enum_of interface_of const_of
  finds_statement s1 s2 o1 e1 t2 l l' b bl f = finds_or b (j ≡ k) definition_starts statement_starts (definition_line l j) (definition_line l' k)
      (import_line s1) (import_line s2)
      (finds_line l l' b bl) (finds_import s1 s2 o1 e1 t2 b f) (opens_line j l) (opens_import j s1 o1 e1) (shows_line k l')
      (shows_import k s2 t2) refl refl refl refl

  finds_attributed : (s1 s2 : Lang Statements) → Opens s1 → s1.starts ≡ statement_starts → Shows s2 → (l l' b : ℕ) → b ≤ l' → Finds (b - 1)
      (j ≡ k) statement_starts s1 s2 → Finds b (j ≡ k) statement_more (attributes ▹ statement s1 l j) (attributes ▹ statement s2 l' k)
  unfolding attributes bracketed import_path definition_item struct_of union_of enum_of interface_of const_of
  finds_attributed s1 s2 o1 e1 t2 l l' b bl f = finds_seq b b (j ≡ k) (OPEN_BRACKET ∷ []) statement_more attributes attributes (statement s1 l j)
      (statement s2 l' k)
      (opens_statement j l s1 o1 e1) refl ((good_attributes (j ≡ k)).finds b) (finds_statement s1 s2 o1 e1 t2 l l' b bl f) (shows_statement k l' s2 t2)
      (λ ts x rest eq le. let short : length rest ≤ length ts = shorter attributes (good_attributes ⊥).shows ts x rest eq in omega arith)

  shows_attributed : (n l : ℕ) → Shows (attributes ▹ statement (statements n l k) l k)
  shows_attributed n l = shows_seq attributes (statement (statements n l k) l k) (good_attributes ⊥).shows
      (shows_statement k l (statements n l k) (shows_statements k n l))

  opens_attributed : (n l : ℕ) → Opens (attributes ▹ statement (statements n l j) l j)
  opens_attributed n l = opens_seq attributes (statement (statements n l j) l j) (good_attributes ⊥).opens
      (opens_statement j l (statements n l j) (opens_statements j n l) (statements_starts n l j))

  -- no more than statements begin with
  within : (c : ℕ) → has statement_starts c ≡ false → has (statement_starts ++ statement_more) c ≡ false
  within c e = lacks_both statement_starts statement_more c e (lacks_both definition_starts statement_starts c
      (lacks_left definition_starts (IMPORT ∷ []) c e) e)

  finds_statements : (n n' l l' b : ℕ) → b ≤ n' → b ≤ l' → Finds b (j ≡ k) statement_starts (statements n l j) (statements n' l' k)
  unfolding statements attributes bracketed import_path definition_item struct_of union_of enum_of interface_of const_of
  finds_statements zero zero l l' b bn bl m ask K free p u le fits h = inl (([], []), p, h, refl)
  finds_statements zero (suc n') l l' b bn bl m ask K free p u le fits h =
      value_outcome m K u gathered (maybe_read (attributes ▹ statement (statements n' l' k) l' k) (p ++ u))
      (skipped m (λ o. K (gathered o)) (attributes ▹ statement (statements n' l' k) l' k) (shows_attributed n' l')
      (λ o t ts r. free (gathered o) t ts r) p u (fits_map gathered m u K fits) h)
  finds_statements (suc n) zero l l' b bn bl m ask K free [] u le fits (inl h) = cut m K (statements zero l' k) (shows_statements k zero l') u
      (cut_of (attributes ▹ statement (statements n l j) l j) (opens_attributed n l) refl (mode_of m) (λ x. K (gathered (Some x))) h)
  finds_statements (suc n) zero l l' b bn bl m ask K free [] u le fits (inr h) = inl (([], []), [], h, refl)
  finds_statements (suc n) zero l l' b bn bl m ask K free (t ∷ ts) u le fits h = absurd (omega (arith, length-append ts u))
  finds_statements (suc n) (suc n') l l' b bn bl m ask K free p u le fits h =
      finds_more b (j ≡ k) (statement_starts ++ statement_more) statement_starts (statements (suc n) l j) (statements (suc n') l' k) within
      (finds_value b (j ≡ k) (statement_starts ++ statement_more) gathered (maybe (attributes ▹ statement (statements n l j) l j))
      (maybe (attributes ▹ statement (statements n' l' k) l' k))
      (finds_maybe b (j ≡ k) statement_more (attributes ▹ statement (statements n l j) l j) (attributes ▹ statement (statements n' l' k) l' k)
      (finds_attributed (statements n l j) (statements n' l' k) (opens_statements j n l) (statements_starts n l j) (shows_statements k n' l') l l' b bl
      (finds_statements n n' l l' (b - 1) (omega arith) (omega arith)))
      (opens_attributed n l) (shows_attributed n' l') refl refl))
      m ask K free p u le fits h

  -- the whole file
  shows_first : (n l : ℕ) → Shows (first_statement (statements n l k) l k)
  shows_first n l = shows_or (module_line (statements n l k)) (as_value OtherLine (statement (statements n l k) l k))
      (shows_value (λ x. ModuleLine x.0 x.1) (module_name ▹ marked (statements n l k))
      (shows_seq module_name (marked (statements n l k)) (good_module_name ⊥).shows (shows_statements k n l)))
      (shows_value OtherLine (statement (statements n l k) l k) (shows_statement k l (statements n l k) (shows_statements k n l)))

  shows_opening : (n l : ℕ) → Shows (opening n l k)
  unfolding opening
  shows_opening n l = shows_value opened (maybe (attributes ▹ first_statement (statements n l k) l k))
      (shows_maybe (attributes ▹ first_statement (statements n l k) l k)
      (shows_seq attributes (first_statement (statements n l k) l k) (good_attributes ⊥).shows (shows_first n l)))

  opens_first : (n l : ℕ) → Opens (first_statement (statements n l j) l j)
  opens_first n l = opens_or (module_line (statements n l j)) (as_value OtherLine (statement (statements n l j) l j))
      (opens_value (λ x. ModuleLine x.0 x.1) (module_name ▹ marked (statements n l j))
      (opens_seq module_name (marked (statements n l j)) (good_module_name ⊥).opens
      (opens_marked j (statements n l j) (opens_statements j n l) (statements_starts n l j))))
      (opens_value OtherLine (statement (statements n l j) l j) (opens_statement j l (statements n l j) (opens_statements j n l) (statements_starts n l j)))

  opens_opening : (n l : ℕ) → Opens (opening n l j)
  unfolding opening
  opens_opening n l = opens_value opened (maybe (attributes ▹ first_statement (statements n l j) l j))
      (opens_maybe (attributes ▹ first_statement (statements n l j) l j)
      (opens_seq attributes (first_statement (statements n l j) l j) (good_attributes ⊥).opens (opens_first n l)))

  abbrev first_more : List ℕ
  first_more = statement_starts ++ statement_more

  finds_module : (n n' l l' b : ℕ) → b ≤ n' → b ≤ l' → Finds b (j ≡ k) statement_starts (module_line (statements n l j)) (module_line (statements n' l' k))
  unfolding module_name
  finds_module n n' l l' b bn bl = finds_value b (j ≡ k) statement_starts (λ x. ModuleLine x.0 x.1) (module_name ▹ marked (statements n l j))
      (module_name ▹ marked (statements n' l' k))
      (finds_seq b (b - 1) (j ≡ k) [] statement_starts module_name module_name (marked (statements n l j)) (marked (statements n' l' k))
      (opens_marked j (statements n l j) (opens_statements j n l) (statements_starts n l j)) refl
      ((good_module_name (j ≡ k)).finds b) (finds_statements n n' l l' (b - 1) (omega arith) (omega arith)) (shows_statements k n' l')
      (shrinks module_name (good_module_name ⊥).opens refl (good_module_name ⊥).shows b))

  finds_first : (n n' l l' b : ℕ) → b ≤ n' → b ≤ l' → Finds b (j ≡ k) first_more (first_statement (statements n l j) l j)
      (first_statement (statements n' l' k) l' k)
  unfolding module_name import_path definition_item struct_of union_of enum_of interface_of const_of
  finds_first n n' l l' b bn bl = finds_or b (j ≡ k) statement_starts statement_more (module_line (statements n l j)) (module_line (statements n' l' k))
      (as_value OtherLine (statement (statements n l j) l j)) (as_value OtherLine (statement (statements n' l' k) l' k))
      (finds_module n n' l l' b bn bl)
      (finds_value b (j ≡ k) statement_more OtherLine (statement (statements n l j) l j) (statement (statements n' l' k) l' k)
      (finds_statement (statements n l j) (statements n' l' k) (opens_statements j n l) (statements_starts n l j) (shows_statements k n' l') l l' b bl
      (finds_statements n n' l l' (b - 1) (omega arith) (omega arith))))
      (opens_value (λ x. ModuleLine x.0 x.1) (module_name ▹ marked (statements n l j))
      (opens_seq module_name (marked (statements n l j)) (good_module_name ⊥).opens
      (opens_marked j (statements n l j) (opens_statements j n l) (statements_starts n l j))))
      (opens_value OtherLine (statement (statements n l j) l j) (opens_statement j l (statements n l j) (opens_statements j n l) (statements_starts n l j)))
      (shows_value (λ x. ModuleLine x.0 x.1) (module_name ▹ marked (statements n' l' k))
      (shows_seq module_name (marked (statements n' l' k)) (good_module_name ⊥).shows (shows_statements k n' l')))
      (shows_value OtherLine (statement (statements n' l' k) l' k) (shows_statement k l' (statements n' l' k) (shows_statements k n' l')))
      refl refl refl refl

  -- what a file goes on with
  pub file_more : List ℕ
  file_more = (OPEN_BRACKET ∷ MODULE ∷ STRUCT ∷ UNION ∷ ENUM ∷ INTERFACE ∷ CONST ∷ IMPORT ∷ []) ++ first_more

  finds_opening : (n n' l l' b : ℕ) → b ≤ n' → b ≤ l' → Finds b (j ≡ k) file_more (opening n l j) (opening n' l' k)
  unfolding file_more opening attributes bracketed module_name import_path definition_item struct_of union_of enum_of interface_of const_of
  finds_opening n n' l l' b bn bl = finds_value b (j ≡ k) file_more opened (maybe (attributes ▹ first_statement (statements n l j) l j))
      (maybe (attributes ▹ first_statement (statements n' l' k) l' k))
      (finds_maybe b (j ≡ k) first_more (attributes ▹ first_statement (statements n l j) l j) (attributes ▹ first_statement (statements n' l' k) l' k)
      (finds_seq b b (j ≡ k) (OPEN_BRACKET ∷ []) first_more attributes attributes (first_statement (statements n l j) l j)
      (first_statement (statements n' l' k) l' k)
      (opens_first n l) refl ((good_attributes (j ≡ k)).finds b) (finds_first n n' l l' b bn bl) (shows_first n' l')
      (λ ts x rest eq le. let short : length rest ≤ length ts = shorter attributes (good_attributes ⊥).shows ts x rest eq in omega arith))
      (opens_seq attributes (first_statement (statements n l j) l j) (good_attributes ⊥).opens (opens_first n l))
      (shows_seq attributes (first_statement (statements n' l' k) l' k) (good_attributes ⊥).shows (shows_first n' l')) refl refl)

  opens_factored : Opens (factored j)
  unfolding factored opening attributes bracketed module_name import_path definition_item struct_of union_of enum_of interface_of const_of
  opens_factored = opens_any (λ l. any (λ n. opening n l j)) (λ l. opens_any (λ n. opening n l j) (λ n. opens_opening n l) (λ n. refl)) (λ l. refl)

  shows_factored : Shows (factored k)
  unfolding factored
  shows_factored = shows_any (λ l. any (λ n. opening n l k)) (λ l. shows_any (λ n. opening n l k) (λ n. shows_opening n l))

  finds_factored : (b : ℕ) → Finds b (j ≡ k) file_more (factored j) (factored k)
  unfolding factored
  finds_factored b m ask K free p u le fits h = finds_opening h.1.0 (length (p ++ u)) h.0 (length (p ++ u)) (length (p ++ u)) (omega arith)
      (omega arith) m ask K free p u (omega arith) fits h.1.1

-- for the law of one tree, and for what the parser answers
pub good_factored : (j k : ℕ) → Good (j ≡ k) (file_more j k) (factored j) (factored k)
unfolding factored opening attributes bracketed module_name import_path definition_item struct_of union_of enum_of interface_of const_of
good_factored j k = record {
  same = refl;
  null = refl;
  opens = opens_factored j k;
  opens_two = opens_factored k k;
  shows = shows_factored j k;
  finds = finds_factored j k;
}
