-- Files have one schema or one refusal.
use Rattle.std.proofs.Common.{◌≡◌, ℕ, zero, suc, ◌+◌, ◌^◌, ◌<◌, List, [], ◌∷◌, length, map, take, refl, sym, ap, ◌∙◌, subst, inl, inr, arith}
use Rattle.std.specs.Prelude.{IsTrue, ◌⊎◌, slice_get, Some}
use Rattle.std.specs.List.{AllByRecursion}
use Rattle.std.proofs.Props.{props}
use Rattle.std.proofs.lemmas.Bool.{cases_order}
use Rattle.std.proofs.lemmas.Option.{same_Some, none-some}
use Rattle.std.proofs.Math.Bridge.{le_prop}
use Rattle.mj_schema.specs.declared.schema.Schema.{Schema}
use Rattle.mj_schema.specs.declared.rows.StructRow.{StructRow}
use Rattle.mj_schema.specs.declared.rows.UnionRow.{UnionRow}
use Rattle.mj_schema.specs.declared.rows.EnumRow.{EnumRow}
use Rattle.mj_schema.specs.declared.rows.InterfaceRow.{InterfaceRow}
use Rattle.mj_schema.specs.declared.rows.ConstRow.{ConstRow}
use Rattle.mj_schema.specs.declared.rows.DefinitionRow.{DefinitionRow}
use Rattle.mj_schema.specs.Layout.{IsLaidOut, draft_of}
use Rattle.mj_schema.specs.Sound.{are_sound, are_texts}
use Rattle.mj_schema.specs.WellFormed.{is_well_formed}
use Rattle.mj_schema.specs.steps.Proper.{all_laid_out-prop}
use Rattle.mojom_ast.specs.declared.file.File.{File}
use Rattle.mojom_files.specs.declared.named_file.NamedFile.{NamedFile}
use Rattle.mojom_files.specs.declared.refusal.Refusal.{Refusal}
use Rattle.module_resolver.specs.declared.file_names.Names.{Names}
use Rattle.import_order.specs.Order.{IsOrdered, IsDisordered, OneOrder}
use Rattle.name_refusals.specs.Resolved.{AreNames, IsRefused}
use Rattle.module_resolver.specs.NamesOf.{names_of}
use Rattle.name_refusals.specs.NameRefusals.{names_refusal}
use Rattle.import_order.proofs.OneOrder.{one_order}
use Rattle.const_eval.specs.declared.consts.Consts.{Consts}
use Rattle.const_eval.specs.Consts.{AreConsts}
use Rattle.const_eval.specs.Evaluated.{IsEvaluated, IsConstRefused}
use Rattle.const_eval.proofs.OneAnswer.{one_consts, one_refusal, not_both}
use Rattle.draft_rows.specs.declared.draft.Draft.{Draft}
use Rattle.kind_refusals.specs.KindRefusals.{kinds_refusal}
use Rattle.draft_rows.specs.Drafts.{draft_of as tables_of}
use Rattle.schema_laws.specs.Refused.{IsNamesRefusal, IsConstsRefusal, IsKindsRefusal, IsStageRefusal}
use Rattle.mojom_compile.specs.declared.error.FileRefusal.{FileRefusal}
use Rattle.mojom_compile.specs.declared.schema_error.SchemaError.{SchemaError}
use Rattle.mojom_compile.specs.declared.schema_error.SchemaError.TheVariants.{Unread, Refused, Memory}
use Rattle.mojom_compile.specs.declared.source.Source.{Source}
use Rattle.mojom_compile.specs.Compiled.{IsUnread}
use Rattle.mojom_compile.specs.Schemas.{IsTreeOf, AreTreesOf, IsFirstUnread, IsTreesRefusal, IsRefusalOf, AreTablesOf, HaveTables, IsLayoutOf, IsSchemaOfFiles, OneSchemaOfFiles}
use Rattle.mojom_compile.proofs.Readings.{one_tree}
use Rattle.mojom_compile.proofs.Given.{is_given}
use Rattle.mojom_compile.proofs.SomeSchema.{some_schema}
use Rattle.mojom_compile.proofs.SameStructs.{same_structs}

-- trees

same_file : (f g : NamedFile) → f.name ≡ g.name → f.tree ≡ g.tree → f ≡ g
same_file f g n t =
    ap (λ (name : List ℕ). let x : NamedFile = record { name = name; tree = f.tree } in x) n
    ∙ ap (λ (tree : File). let x : NamedFile = record { name = g.name; tree = tree } in x) t

one_file : (source : Source) (f g : NamedFile) → IsTreeOf source f → IsTreeOf source g → f ≡ g
one_file source f g a b =
    same_file f g (a.name ∙ sym b.name) ((one_tree source.bytes).one_tree f.tree g.tree a.parsed b.parsed)

pub same_trees : (sources : List Source) (fs gs : List NamedFile) → AreTreesOf sources fs → AreTreesOf sources gs → fs ≡ gs
same_trees [] [] [] a b = refl
same_trees [] [] (g ∷ gs) a b = absurd b
same_trees [] (f ∷ fs) gs a b = absurd a
same_trees (s ∷ ss) [] gs a b = absurd a
same_trees (s ∷ ss) (f ∷ fs) [] a b = absurd b
same_trees (s ∷ ss) (f ∷ fs) (g ∷ gs) a b =
    ap (λ (x : NamedFile). x ∷ fs) (one_file s f g a.0 b.0) ∙ ap (λ (xs : List NamedFile). g ∷ xs) (same_trees ss fs gs a.1 b.1)

-- a file among those that have trees has one
tree_at : (sources : List Source) (files : List NamedFile) (k : ℕ) (source : Source) → AreTreesOf sources files → slice_get sources k ≡ Some source
    → (file : NamedFile) × IsTreeOf source file
tree_at [] files k source are is = absurd cc
tree_at (s ∷ ss) [] k source are is = absurd are
tree_at (s ∷ ss) (f ∷ fs) zero source are is = (f, subst (λ (x : Source). IsTreeOf x f) (same_Some s source is) are.0)
tree_at (s ∷ ss) (f ∷ fs) (suc k) source are is = tree_at ss fs k source are.1 is

-- the same of the first of them
tree_before : (sources : List Source) (files : List NamedFile) (n k : ℕ) (source : Source) → AreTreesOf (take n sources) files → k < n
    → slice_get sources k ≡ Some source → (file : NamedFile) × IsTreeOf source file
tree_before sources files zero k source are lt is = let bad : ⊥ = omega (arith, lt) in absurd bad
tree_before [] files (suc n) k source are lt is = absurd cc
tree_before (s ∷ ss) [] (suc n) k source are lt is = absurd are
tree_before (s ∷ ss) (f ∷ fs) (suc n) zero source are lt is = (f, subst (λ (x : Source). IsTreeOf x f) (same_Some s source is) are.0)
tree_before (s ∷ ss) (f ∷ fs) (suc n) (suc k) source are lt is = tree_before ss fs n k source are.1 (omega (arith, lt)) is

no_tree : (source : Source) (refusal : FileRefusal) → IsUnread source.bytes refusal → ((file : NamedFile) × IsTreeOf source file) → ⊥
no_tree source refusal unread has = (one_tree source.bytes).never_both has.0.tree refusal has.1.parsed unread

module _ (sources : List Source) where
  no_trees : (files : List NamedFile) (file : ℕ) (refusal : FileRefusal) → AreTreesOf sources files → IsFirstUnread sources file refusal → ⊥
  no_trees files file refusal are first = no_tree first.source refusal first.unread (tree_at sources files file first.source are first.is)

  not_sooner : (m n : ℕ) (r o : FileRefusal) → IsFirstUnread sources m r → IsFirstUnread sources n o → m < n → ⊥
  not_sooner m n r o a b lt = no_tree a.source r a.unread (tree_before sources b.before n m a.source b.trees lt a.is)

  same_number : (m n : ℕ) (r o : FileRefusal) → IsFirstUnread sources m r → IsFirstUnread sources n o → m ≡ n
  same_number m n r o a b = elim (cases_order m n) [
    | inl same ↦ same
    | inr apart ↦ elim apart [
      | inl less ↦ absurd (not_sooner m n r o a b less)
      | inr more ↦ absurd (not_sooner n m o r b a more)
    ]
  ]

  same_unread : (m n : ℕ) (r o : FileRefusal) → IsFirstUnread sources m r → IsFirstUnread sources n o → Unread m r ≡ Unread n o
  same_unread m n r o a b =
      let number = same_number m n r o a b in
      let source : a.source ≡ b.source = same_Some a.source b.source (sym a.is ∙ (ap (λ (k : ℕ). slice_get sources k) number ∙ b.is)) in
      let unread : IsUnread b.source.bytes r = subst (λ (s : Source). IsUnread s.bytes r) source a.unread in
      let refusal : r ≡ o = (one_tree b.source.bytes).one_refusal r o unread b.unread in
      ap (λ (k : ℕ). Unread k r) number ∙ ap (λ (x : FileRefusal). Unread n x) refusal

-- stages

same_names : (files : List NamedFile) (order other : List ℕ) (n m : Names) → order ≡ other → AreNames files order n → AreNames files other m → n ≡ m
same_names files order other n m same a b = a.are ∙ (ap (λ (o : List ℕ). names_of files o) same ∙ sym b.are)

-- where names pass under one order they aren't refused under it
names_pass : (files : List NamedFile) (order other : List ℕ) (n : Names) (r : Refusal)
    → order ≡ other → AreNames files order n → IsRefused files other r → ⊥
names_pass files order other n r same a b =
    none-some r (sym a.none_refused ∙ (ap (λ (o : List ℕ). names_refusal files o) same ∙ b))

consts_pass : (files : List NamedFile) (order other : List ℕ) (n m : Names) (c : Consts) (r : Refusal)
    → order ≡ other → n ≡ m → IsEvaluated files order n.files c → IsConstRefused files other m.files r → ⊥
consts_pass files order other n m c r orders names a b =
    not_both files other m.files c r
    (subst (λ (x : Names). IsEvaluated files other x.files c) names (subst (λ (o : List ℕ). IsEvaluated files o n.files c) orders a)) b

same_consts : (files : List NamedFile) (n m : Names) (c d : Consts) → n ≡ m → AreConsts files n.files c → AreConsts files m.files d → c ≡ d
same_consts files n m c d names a b = one_consts files m.files c d (subst (λ (x : Names). AreConsts files x.files c) names a) b

same_kinds : (files : List NamedFile) (order other : List ℕ) (n m : Names) (c d : Consts) → order ≡ other → n ≡ m → c ≡ d
    → kinds_refusal n.files c files order ≡ kinds_refusal m.files d files other
same_kinds files order other n m c d orders names consts =
    ap (λ (x : Names). kinds_refusal x.files c files order) names
    ∙ (ap (λ (x : Consts). kinds_refusal m.files x files order) consts
    ∙ ap (λ (o : List ℕ). kinds_refusal m.files d files o) orders)

same_tables : (files : List NamedFile) (order other : List ℕ) (n m : Names) (c d : Consts) → order ≡ other → n ≡ m → c ≡ d
    → tables_of n.files c files order ≡ tables_of m.files d files other
same_tables files order other n m c d orders names consts =
    ap (λ (x : Names). tables_of x.files c files order) names
    ∙ (ap (λ (x : Consts). tables_of m.files x files order) consts
    ∙ ap (λ (o : List ℕ). tables_of m.files d files o) orders)

module _ (files : List NamedFile) where
  orders : OneOrder files
  orders = one_order files

  one_order_of : (order other : List ℕ) → IsOrdered files order → IsOrdered files other → order ≡ other
  one_order_of order other a b = orders.one_order order other a b

  the_tables : (one two : Draft) → AreTablesOf files one → AreTablesOf files two → one ≡ two
  the_tables one two a b =
      let order = one_order_of a.order b.order a.passed.ordered b.passed.ordered in
      let names = same_names files a.order b.order a.names b.names order a.passed.named b.passed.named in
      let consts = same_consts files a.names b.names a.consts b.consts names a.passed.evaluated.are b.passed.evaluated.are in
      a.are ∙ (same_tables files a.order b.order a.names b.names a.consts b.consts order names consts ∙ sym b.are)

  -- two refusals of one stage

  names_once : (r o : Refusal) → IsNamesRefusal files r → IsNamesRefusal files o → r ≡ o
  names_once r o a b =
      let order = one_order_of a.order b.order a.ordered b.ordered in
      same_Some r o (sym a.refused ∙ (ap (λ (x : List ℕ). names_refusal files x) order ∙ b.refused))

  consts_once : (r o : Refusal) → IsConstsRefusal files r → IsConstsRefusal files o → r ≡ o
  consts_once r o a b =
      let order = one_order_of a.order b.order a.ordered b.ordered in
      let names = same_names files a.order b.order a.names b.names order a.named b.named in
      let here = subst (λ (x : List ℕ). IsConstRefused files x a.names.files r) order a.refused in
      one_refusal files b.order b.names.files r o (subst (λ (x : Names). IsConstRefused files b.order x.files r) names here) b.refused

  kinds_once : (r o : Refusal) → IsKindsRefusal files r → IsKindsRefusal files o → r ≡ o
  kinds_once r o a b =
      let order = one_order_of a.order b.order a.ordered b.ordered in
      let names = same_names files a.order b.order a.names b.names order a.named b.named in
      let consts = same_consts files a.names b.names a.consts b.consts names a.evaluated.are b.evaluated.are in
      same_Some r o (sym a.refused ∙ (same_kinds files a.order b.order a.names b.names a.consts b.consts order names consts ∙ b.refused))

  -- a stage that refuses, and a later one

  names_first : (r o : Refusal) → IsNamesRefusal files r → IsConstsRefusal files o → ⊥
  names_first r o a b = names_pass files b.order a.order b.names r (one_order_of b.order a.order b.ordered a.ordered) b.named a.refused

  names_before_kinds : (r o : Refusal) → IsNamesRefusal files r → IsKindsRefusal files o → ⊥
  names_before_kinds r o a b = names_pass files b.order a.order b.names r (one_order_of b.order a.order b.ordered a.ordered) b.named a.refused

  consts_first : (r o : Refusal) → IsConstsRefusal files r → IsKindsRefusal files o → ⊥
  consts_first r o a b =
      let order = one_order_of b.order a.order b.ordered a.ordered in
      consts_pass files b.order a.order b.names a.names b.consts r order
      (same_names files b.order a.order b.names a.names order b.named a.named) b.evaluated a.refused

  after_order : (r o : Refusal) → IsDisordered files r → IsNamesRefusal files o ⊎ (IsConstsRefusal files o ⊎ IsKindsRefusal files o) → ⊥
  after_order r o a (inl b) = orders.never_both b.order r b.ordered a
  after_order r o a (inr (inl b)) = orders.never_both b.order r b.ordered a
  after_order r o a (inr (inr b)) = orders.never_both b.order r b.ordered a

  the_stage : (r o : Refusal) → IsNamesRefusal files r ⊎ (IsConstsRefusal files r ⊎ IsKindsRefusal files r)
      → IsNamesRefusal files o ⊎ (IsConstsRefusal files o ⊎ IsKindsRefusal files o) → r ≡ o
  the_stage r o (inl a) (inl b) = names_once r o a b
  the_stage r o (inl a) (inr (inl b)) = absurd (names_first r o a b)
  the_stage r o (inl a) (inr (inr b)) = absurd (names_before_kinds r o a b)
  the_stage r o (inr (inl a)) (inl b) = absurd (names_first o r b a)
  the_stage r o (inr (inl a)) (inr (inl b)) = consts_once r o a b
  the_stage r o (inr (inl a)) (inr (inr b)) = absurd (consts_first r o a b)
  the_stage r o (inr (inr a)) (inl b) = absurd (names_before_kinds o r b a)
  the_stage r o (inr (inr a)) (inr (inl b)) = absurd (consts_first o r b a)
  the_stage r o (inr (inr a)) (inr (inr b)) = kinds_once r o a b

  the_stage_refusal : (r o : Refusal) → IsStageRefusal files r → IsStageRefusal files o → r ≡ o
  the_stage_refusal r o (inl a) (inl b) = orders.one_refusal r o a b
  the_stage_refusal r o (inl a) (inr b) = absurd (after_order r o a b)
  the_stage_refusal r o (inr a) (inl b) = absurd (after_order o r b a)
  the_stage_refusal r o (inr a) (inr b) = the_stage r o a b

  -- tables, and no refusal
  passed_all : (draft : Draft) (r : Refusal) → AreTablesOf files draft → IsStageRefusal files r → ⊥
  passed_all draft r a (inl b) = orders.never_both a.order r a.passed.ordered b
  passed_all draft r a (inr (inl b)) =
      names_pass files a.order b.order a.names r (one_order_of a.order b.order a.passed.ordered b.ordered) a.passed.named b.refused
  passed_all draft r a (inr (inr (inl b))) =
      let order = one_order_of a.order b.order a.passed.ordered b.ordered in
      consts_pass files a.order b.order a.names b.names a.consts r order
      (same_names files a.order b.order a.names b.names order a.passed.named b.named) a.passed.evaluated b.refused
  passed_all draft r a (inr (inr (inr b))) =
      let order = one_order_of a.order b.order a.passed.ordered b.ordered in
      let names = same_names files a.order b.order a.names b.names order a.passed.named b.named in
      let consts = same_consts files a.names b.names a.consts b.consts names a.passed.evaluated.are b.evaluated.are in
      none-some r (sym a.passed.kinds ∙ (same_kinds files a.order b.order a.names b.names a.consts b.consts order names consts ∙ b.refused))

-- schemas

-- what rows owe to be those of a schema
record AreRows (ss : List StructRow) (us : List UnionRow) (es : List EnumRow) (is : List InterfaceRow) (cs : List ConstRow)
    (ds : List DefinitionRow) : Type 0 where
  few : length ss + length us + length es + length is + length cs < 2 ^ 32
  laid_out : AllByRecursion IsLaidOut ss
  well_formed : IsTrue (is_well_formed ss us es is cs ds)
  sound : IsTrue (are_sound (map draft_of ss) us es is cs ds)
  texts : IsTrue (are_texts (map draft_of ss) cs)

-- a schema of these parts
abbrev made : (ss : List StructRow) (us : List UnionRow) (es : List EnumRow) (is : List InterfaceRow) (cs : List ConstRow) (ds : List DefinitionRow)
    → AreRows ss us es is cs ds → Schema
made ss us es is cs ds are = record {
  structs = ss;
  unions = us;
  enums = es;
  interfaces = is;
  consts = cs;
  order = ds;
  few = are.few;
  laid_out = are.laid_out;
  well_formed = are.well_formed;
  sound = are.sound;
  texts = are.texts;
}

same_proofs : (ss : List StructRow) (us : List UnionRow) (es : List EnumRow) (is : List InterfaceRow) (cs : List ConstRow) (ds : List DefinitionRow)
    (u v : AreRows ss us es is cs ds) → made ss us es is cs ds u ≡ made ss us es is cs ds v
same_proofs ss us es is cs ds u v =
    let formed : IsProp (IsTrue (is_well_formed ss us es is cs ds)) = hlevel props in
    let sound : IsProp (IsTrue (are_sound (map draft_of ss) us es is cs ds)) = hlevel props in
    let texts : IsProp (IsTrue (are_texts (map draft_of ss) cs)) = hlevel props in
    ap (λ (k : length ss + length us + length es + length is + length cs < 2 ^ 32). made ss us es is cs ds (record u { few = k })) (le_prop u.few v.few)
    ∙ ap (λ (k : AllByRecursion IsLaidOut ss). made ss us es is cs ds (record u { few = v.few; laid_out = k }))
    (all_laid_out-prop ss u.laid_out v.laid_out)
    ∙ ap (λ (k : IsTrue (is_well_formed ss us es is cs ds)). made ss us es is cs ds (record v { well_formed = k; sound = u.sound; texts = u.texts }))
    (formed u.well_formed v.well_formed)
    ∙ ap (λ (k : IsTrue (are_sound (map draft_of ss) us es is cs ds)). made ss us es is cs ds (record v { sound = k; texts = u.texts }))
    (sound u.sound v.sound)
    ∙ ap (λ (k : IsTrue (are_texts (map draft_of ss) cs)). made ss us es is cs ds (record v { texts = k })) (texts u.texts v.texts)

-- schemas of the same rows are one
same_rows : (ss ss' : List StructRow) (us us' : List UnionRow) (es es' : List EnumRow) (is is' : List InterfaceRow) (cs cs' : List ConstRow)
    (ds ds' : List DefinitionRow) → ss ≡ ss' → us ≡ us' → es ≡ es' → is ≡ is' → cs ≡ cs' → ds ≡ ds'
    → (u : AreRows ss us es is cs ds) (v : AreRows ss' us' es' is' cs' ds') → made ss us es is cs ds u ≡ made ss' us' es' is' cs' ds' v
same_rows ss ss' us us' es es' is is' cs cs' ds ds' a b c d e h =
    subst
    (λ (x : List StructRow). (u : AreRows ss us es is cs ds) (v : AreRows x us' es' is' cs' ds')
    → made ss us es is cs ds u ≡ made x us' es' is' cs' ds' v) a
    (subst
    (λ (x : List UnionRow). (u : AreRows ss us es is cs ds) (v : AreRows ss x es' is' cs' ds')
    → made ss us es is cs ds u ≡ made ss x es' is' cs' ds' v) b
    (subst
    (λ (x : List EnumRow). (u : AreRows ss us es is cs ds) (v : AreRows ss us x is' cs' ds')
    → made ss us es is cs ds u ≡ made ss us x is' cs' ds' v) c
    (subst
    (λ (x : List InterfaceRow). (u : AreRows ss us es is cs ds) (v : AreRows ss us es x cs' ds')
    → made ss us es is cs ds u ≡ made ss us es x cs' ds' v) d
    (subst
    (λ (x : List ConstRow). (u : AreRows ss us es is cs ds) (v : AreRows ss us es is x ds')
    → made ss us es is cs ds u ≡ made ss us es is x ds' v) e
    (subst
    (λ (x : List DefinitionRow). (u : AreRows ss us es is cs ds) (v : AreRows ss us es is cs x)
    → made ss us es is cs ds u ≡ made ss us es is cs x v) h
    (same_proofs ss us es is cs ds))))))

abbrev rows_of : (s : Schema) → AreRows s.structs s.unions s.enums s.interfaces s.consts s.order
rows_of s = record { few = s.few; laid_out = s.laid_out; well_formed = s.well_formed; sound = s.sound; texts = s.texts }

same_schema : (draft : Draft) (s t : Schema) → IsLayoutOf draft s → IsLayoutOf draft t → s ≡ t
same_schema draft s t a b =
    same_rows s.structs t.structs s.unions t.unions s.enums t.enums s.interfaces t.interfaces s.consts t.consts s.order t.order
    (same_structs s.structs t.structs s.laid_out t.laid_out (a.structs ∙ sym b.structs))
    (a.unions ∙ sym b.unions) (a.enums ∙ sym b.enums) (a.interfaces ∙ sym b.interfaces) (a.consts ∙ sym b.consts) (a.order ∙ sym b.order)
    (rows_of s) (rows_of t)

module _ (sources : List Source) where
  same_draft : (one two : Draft) → HaveTables sources one → HaveTables sources two → one ≡ two
  same_draft one two a b =
      let files = same_trees sources a.files b.files a.trees b.trees in
      the_tables b.files one two (subst (λ (fs : List NamedFile). AreTablesOf fs one) files a.tables) b.tables

  the_schema : (s t : Schema) → IsSchemaOfFiles sources s → IsSchemaOfFiles sources t → s ≡ t
  the_schema s t a b =
      let draft = same_draft a.draft b.draft a.tables b.tables in
      same_schema b.draft s t (subst (λ (d : Draft). IsLayoutOf d s) draft a.layout) b.layout

  trees_once : (r o : Refusal) → IsTreesRefusal sources r → IsTreesRefusal sources o → r ≡ o
  trees_once r o a b =
      let files = same_trees sources a.files b.files a.trees b.trees in
      the_stage_refusal b.files r o (subst (λ (fs : List NamedFile). IsStageRefusal fs r) files a.refused) b.refused

  the_refusal : (e o : SchemaError) → IsRefusalOf sources e → IsRefusalOf sources o → e ≡ o
  the_refusal (Unread m r) (Unread n o) a b = same_unread sources m n r o a b
  the_refusal (Unread m r) (Refused o) a b = absurd (no_trees sources b.files m r b.trees a)
  the_refusal (Refused r) (Unread n o) a b = absurd (no_trees sources a.files n o a.trees b)
  the_refusal (Refused r) (Refused o) a b = ap (λ (x : Refusal). Refused x) (trees_once r o a b)
  the_refusal (Unread m r) Memory a b = absurd b
  the_refusal (Refused r) Memory a b = absurd b
  the_refusal Memory o a b = absurd a

  never : (s : Schema) (e : SchemaError) → IsSchemaOfFiles sources s → IsRefusalOf sources e → ⊥
  never s (Unread n o) a b = no_trees sources a.tables.files n o a.tables.trees b
  never s (Refused r) a b =
      let files = same_trees sources a.tables.files b.files a.tables.trees b.trees in
      passed_all b.files a.draft r (subst (λ (fs : List NamedFile). AreTablesOf fs a.draft) files a.tables.tables) b.refused
  never s Memory a b = absurd b

  -- for the law of this name
  pub one_schema : OneSchemaOfFiles sources
  one_schema = record {
    some = some_schema sources;
    one_schema = the_schema;
    one_refusal = the_refusal;
    never_both = never;
    of_given = is_given sources;
  }
