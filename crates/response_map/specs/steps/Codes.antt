-- How proofs tell contents apart: keys as their four numbers.
use Rattle.std.specs.Prelude.{ℕ, refl}
use Rattle.std.specs.Coded.{Coded, code_by, coded×, coded_ℕ}
use Rattle.std.specs.FinMap.{FinMap, code}
use Rattle.mj_base.specs.declared.ids.EndId.{EndId}
use Rattle.response_map.specs.declared.key.Key.{Key}
use Rattle.response_map.specs.Contents.{Contents}
use Rattle.response_map.specs.Keys.{key_cmp}

-- the code of an end: its two numbers
abbrev end_code : Coded EndId
end_code = code_by (ℕ × ℕ) (coded× coded_ℕ coded_ℕ) (λ x. (x.seq, x.serial)) (λ p. record { seq = p.0; serial = p.1 }) (λ _. refl)

-- the code of a key: its end, and two numbers
abbrev key_code : Coded Key
key_code = code_by (EndId × (ℕ × ℕ)) (coded× end_code (coded× coded_ℕ coded_ℕ)) (λ x. (x.end, (x.id, x.request)))
    (λ p. record { end = p.0; id = p.1.0; request = p.1.1 }) (λ _. refl)

-- the code of contents, by that of a callback
abbrev pub contents_code : {C : Type 0} → Coded C → Coded (Contents C)
contents_code {C} of_callback = code_by (FinMap key_cmp C × ℕ) (coded× (code key_code of_callback) coded_ℕ)
    (λ x. (x.callbacks, x.spare)) (λ p. record { callbacks = p.0; spare = p.1 }) (λ _. refl)
