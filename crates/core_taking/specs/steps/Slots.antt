-- The endpoints that a value names, without the tests of its parts, and what they say of places.
use Rattle.std.specs.Prelude.{ℕ, zero, suc, Bool, true, false, List, [], ◌∷◌, ◌++◌, map, Option, Some, None}
use Rattle.mj_schema.specs.KindTrees as kinds
use Rattle.mj_schema.specs.KindTrees.{KindTree}
use Rattle.mj_schema.specs.Layout.{kind_of}
use Rattle.mj_schema.specs.declared.rows.StructRow.{StructRow}
use Rattle.mj_schema.specs.declared.schema.Schema.{Schema}
use Rattle.wire_encoder.specs.declared.endpoint.EndpointSide.TheVariants as sides
use Rattle.wire_encoder.specs.declared.endpoint.WantedEndpoint.{WantedEndpoint}
use Rattle.wire_model.specs.Rows.{member_kind, row_of}
use Rattle.wire_model.specs.Trees.{Tree, Trees, Flag, Whole, Text, Items, Pairs, Fields, Member, Unknown, Handle, Remote, Endpoint, EndpointRemote, Null}
use Rattle.wire_model.specs.Trees.{none, more}
use Rattle.bind_model.specs.Wire.{Named}

-- ## What a value names

-- a receiver of an associated endpoint
abbrev pub receiver_names : KindTree → ℕ → List Named
receiver_names (kinds.AssociatedReceiverKind interface nullable) index =
    record { index = index; endpoint = record { side = sides.Receiver; interface = interface } } ∷ []
receiver_names _ index = []

-- a remote of an associated endpoint
abbrev pub remote_names : KindTree → ℕ → List Named
remote_names (kinds.AssociatedRemoteKind interface nullable) index =
    record { index = index; endpoint = record { side = sides.Remote; interface = interface } } ∷ []
remote_names _ index = []

-- an array by the kind of its elements
abbrev pub array_names : KindTree → (KindTree → List Named) → List Named
array_names (kinds.ArrayKind of fixed nullable) inner = inner of
array_names _ inner = []

-- a map by its keys and its values
abbrev pub map_names : KindTree → (KindTree → List Named) → (KindTree → List Named) → List Named
map_names (kinds.MapKind key value nullable) keys values = keys key ++ values value
map_names _ keys values = []

-- a struct by the kinds of its fields; none where there is no such struct
abbrev pub struct_names : Option StructRow → (List KindTree → List Named) → List Named
struct_names None inner = []
struct_names (Some row) inner = inner (map kind_of row.fields)

-- a union by what it holds
abbrev pub member_names : Option KindTree → (KindTree → List Named) → List Named
member_names None inner = []
member_names (Some held) inner = inner held

abbrev mutual
  -- a value of a kind
  pub names : Schema → KindTree → Tree → List Named
  names schema k (Flag b) = []
  names schema k (Whole n) = []
  names schema k (Text bytes) = []
  names schema k (Items ts) = array_names k (λ of. each_names schema of ts)
  names schema k (Pairs (more (Items ks) (more (Items vs) none))) = map_names k (λ key. each_names schema key ks) (λ value. each_names schema value vs)
  names schema k (Pairs _) = []
  names schema k (Fields ts) = struct_names (row_of schema k) (λ ks. field_names schema ks ts)
  names schema k (Member tag t) = member_names (member_kind schema k tag) (λ held. names schema held t)
  names schema k (Unknown tag) = []
  names schema k (Handle index) = []
  names schema k (Remote index version) = []
  names schema k (Endpoint index) = receiver_names k index
  names schema k (EndpointRemote index version) = remote_names k index
  names schema k Null = []

  -- values of one kind
  pub each_names : Schema → KindTree → Trees → List Named
  each_names schema k none = []
  each_names schema k (more t ts) = names schema k t ++ each_names schema k ts

  -- values of kinds; the shorter list ends it
  pub field_names : Schema → List KindTree → Trees → List Named
  field_names schema ks none = []
  field_names schema [] (more t ts) = []
  field_names schema (k ∷ ks) (more t ts) = names schema k t ++ field_names schema ks ts

-- ## What is noted

-- there is a place, of which nothing is said
abbrev pub is_vacant : Option (Option WantedEndpoint) → Bool
is_vacant None = false
is_vacant (Some None) = true
is_vacant (Some (Some wanted)) = false

-- a place that is vacant is filled, and one that isn't stays; there is none past the end
abbrev pub filled : List (Option WantedEndpoint) → ℕ → WantedEndpoint → List (Option WantedEndpoint)
filled [] index wanted = []
filled (None ∷ slots) zero wanted = Some wanted ∷ slots
filled (Some before ∷ slots) zero wanted = Some before ∷ slots
filled (slot ∷ slots) (suc index) wanted = slot ∷ filled slots index wanted

-- the places once all these are noted
abbrev pub noted : List Named → List (Option WantedEndpoint) → List (Option WantedEndpoint)
noted [] slots = slots
noted (n ∷ named) slots = noted named (filled slots n.index n.endpoint)
