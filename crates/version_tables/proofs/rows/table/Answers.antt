use Rattle.std.proofs.Common.{Vec, Global, List, [], ◌≡◌, ◌+◌, ◌<◌, ◌^◌, max, map, drop, get_or, length, refl, sym, ap, ◌∙◌, arith}
use Rattle.std.specs.Prelude.{None}
use Rattle.std.proofs.lemmas.List.{drop_all}
use Rattle.mj_base.specs.Bytes.{rounded8}
use Rattle.mj_schema.specs.declared.rows.DraftField.{DraftField}
use Rattle.mj_schema.specs.declared.rows.Place.{Place}
use Rattle.mj_schema.specs.declared.rows.VersionRow.{VersionRow}
use Rattle.mj_schema.specs.Layout.{are_small}
use Rattle.mj_schema.specs.Versions.{bytes_of, flag_end}
use Rattle.version_tables.proofs.Growing.{next_same, next_newer, small_next, all_fields}
use Rattle.version_tables.proofs.rows.table.Goals as goal
use Rattle.version_tables.proofs.rows.table.Goals.{then-since-version+in_ok-push, else-since-version}

pub loop-count-preserved : goal.loop-count-preserved
loop-count-preserved c =
    let fs = c.args.fields.now in
    let ps = c.args.places.now in
    let i = c.loop-count.count in
    let f = c.index-fields-count.result in
    let e : Place = record { offset = 0; bit = 0; flag = None } in
    let p : Place = get_or ps i e in
    let g = c.loop-count.invariant in
    let end : c.max-end.result ≡ max c.loop-count.end (max (flag_end p.flag) (p.offset + bytes_of f.kind)) = c.max-end.ensures
    ∙ ap (λ n. max c.loop-count.end n) c.end_of.ensures.value in
    let near : c.max-end.result < 2 ^ 17 + 16 = omega (arith, c.max-end.ensures, c.end_of.ensures.near, g.near) in
    let few : f.min_version < 2 ^ 32 = rw c.since-since.ensures at c.since-since.type_inv in
    let small = small_next i fs f c.loop-count-test.true c.index-fields-count.is few ∙ g.small in
    elim c.if-since-version.branch [
      | then-since-version+in_ok-push w ↦
          let next = next_newer fs ps i c.loop-count.version c.loop-count.end c.max-end.result c.loop-count.rows.items c.if-since-version.rows.items f
          p c.requires.places c.loop-count-test.true c.index-fields-count.is e refl g.grown g.rising end w.row.result
          (rw c.since-since.ensures at w.if-since-version.true)
          w.row.ensures (ap (λ (v : Vec VersionRow Global). v.items) w.rows-is ∙ w.in_ok-push.ensures.items) in
          let is = w.version-is ∙ c.since-since.ensures in
          record { grown = rw is next.grown; near = near; small = small; rising = rw is next.rising }
      | else-since-version w ↦
          let next = next_same fs ps i c.loop-count.version c.loop-count.end c.max-end.result c.loop-count.rows.items c.if-since-version.rows.items f
          p c.requires.places c.loop-count-test.true c.index-fields-count.is e refl g.grown g.rising end (sym c.since-since.ensures ∙ w.if-since-version.false)
          (ap (λ (v : Vec VersionRow Global). v.items) w.rows-is) in
          record { grown = rw w.version-is next.grown; near = near; small = small; rising = rw w.version-is next.rising }
    ]

pub returns-clause-rows : goal.returns-clause-rows
returns-clause-rows c =
    let count : c.loop-count.count ≡ length c.args.fields.now = omega (arith, c.loop-count-test.false, c.loop-count.auto.count-end) in
    let row = c.row-2.ensures ∙ ap (λ n. let r : VersionRow = record {
      version = c.loop-count.version;
      fields = n;
      bytes = rounded8 (8 + c.loop-count.end);
    } in r) (sym count) in
    all_fields c.args.fields.now c.args.places.now c.loop-count.rows.items c.push-2.new.self.items c.loop-count.version c.loop-count.end
    c.loop-count.count c.row-2.result c.requires.places count c.loop-count.invariant.grown row c.in_ok-push-2.ensures.items

pub returns-clause-small : goal.returns-clause-small
returns-clause-small c =
    let none_left : drop c.loop-count.count c.args.fields.now ≡ [] =
    drop_all c.loop-count.count c.args.fields.now (omega (arith, c.loop-count-test.false, c.loop-count.auto.count-end)) in
    sym c.loop-count.invariant.small ∙ ap (λ (fs : List DraftField). are_small (map (λ (f : DraftField). f.min_version) fs)) none_left
