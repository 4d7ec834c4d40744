-- Structs of the same names and kinds have one layout.
use Rattle.std.proofs.Common.{◌≡◌, List, [], ◌∷◌, map, refl, ap, ◌∙◌}
use Rattle.std.specs.List.{AllByRecursion}
use Rattle.mj_schema.specs.declared.rows.StructRow.{StructRow}
use Rattle.mj_schema.specs.declared.rows.DraftStruct.{DraftStruct}
use Rattle.mj_schema.specs.Layout.{IsLaidOut, draft_of}
use Rattle.mj_schema.proofs.OneLayout.{one_layout}

heads : (d e : DraftStruct) (ds es : List DraftStruct) → (d ∷ ds) ≡ (e ∷ es) → (d ≡ e) × (ds ≡ es)
heads d e ds es h = (cc, cc)

pub same_structs : (ss ts : List StructRow) → AllByRecursion IsLaidOut ss → AllByRecursion IsLaidOut ts → map draft_of ss ≡ map draft_of ts → ss ≡ ts
same_structs [] [] l m e = refl
same_structs [] (t ∷ ts) l m e = absurd cc
same_structs (s ∷ ss) [] l m e = absurd cc
same_structs (s ∷ ss) (t ∷ ts) l m e =
    let parts = heads (draft_of s) (draft_of t) (map draft_of ss) (map draft_of ts) e in
    let first : s ≡ t = one_layout s t l.0 m.0 parts.0 in
    let rest : ss ≡ ts = same_structs ss ts l.1 m.1 parts.1 in
    ap (λ (x : StructRow). x ∷ ss) first ∙ ap (λ (xs : List StructRow). t ∷ xs) rest
