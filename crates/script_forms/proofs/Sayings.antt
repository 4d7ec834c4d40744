-- What a command's words can be.
use Rattle.std.proofs.Common.{◌≡◌, ◌<◌, ◌^◌, ℕ, List, [], ◌∷◌, refl, sym, ap, true, false}
use Rattle.std.specs.Prelude.{codes, decimal, Some, None}
use Rattle.std.specs.Str.{bytes_eq}
use Rattle.std.proofs.lemmas.Slice.Eq.{bytes_eq-Decides}
use Rattle.bind_model.specs.declared.asked.Notice.TheVariants.{Query, Require, Flush}
use Rattle.handle_table.specs.declared.thing.TokenSort.{TokenSort}
use Rattle.wire_encoder.specs.declared.endpoint.EndpointSide.{EndpointSide}
use Rattle.script_forms.specs.Forms.{Said, Pipe, Mint, Bind, Associate, Attach, Call, Take, Answer, Raw, CloseToken, CloseEndpoint, Notify, Pause}
use Rattle.script_forms.specs.Forms.{Data, Flow, IsMoved, Moved, move_tail, move_word}
use Rattle.script_forms.specs.Forms.{IsSaid, said_words, sort_word, side_word}
use Rattle.script_words.specs.Letters.{is_name, are_names, endpoint_word, is_interface_word, IsHexWord}
use Rattle.script_forms.proofs.MoveWords.{no_move}

-- what is behind the first of two equal lists
abbrev rest : {A : Type 0} → List A → List A
rest [] = []
rest (x ∷ xs) = xs

abbrev head : List (List ℕ) → List ℕ
head [] = []
head (x ∷ xs) = x

pub first_is : (a b : List ℕ) (xs ys : List (List ℕ)) → a ∷ xs ≡ b ∷ ys → a ≡ b
first_is a b xs ys e = ap head e

pub rest_is : (a b : List ℕ) (xs ys : List (List ℕ)) → a ∷ xs ≡ b ∷ ys → xs ≡ ys
rest_is a b xs ys e = ap rest e

-- lists that begin with different words
pub apart : (a b : List ℕ) (xs ys : List (List ℕ)) → bytes_eq a b ≡ false → a ∷ xs ≡ b ∷ ys → ⊥
apart a b xs ys unlike e = let same : bytes_eq a b ≡ true = (bytes_eq-Decides a b).1 (first_is a b xs ys e) in absurd cc

-- what each command is
pub record IsPipe (words : List (List ℕ)) (said : Said) : Type 0 where
  pub first : List ℕ
  pub second : List ℕ
  pub is : said ≡ Pipe first second
  pub are : words ≡ first ∷ second ∷ []
  pub one : is_name first ≡ true
  pub two : is_name second ≡ true

pub pipe_only : (words : List (List ℕ)) (said : Said) → IsSaid said → codes "pipe" ∷ words ≡ said_words said → IsPipe words said
pipe_only words (Pipe x y) h e = record { first = x; second = y; is = refl; are = rest_is _ _ _ _ e; one = h.0; two = h.1 }
pipe_only words (Mint s x) h e = absurd (apart _ _ _ _ refl e)
pipe_only words (Bind x s i) h e = absurd (apart _ _ _ _ refl e)
pipe_only words (Associate x s i p) h e = absurd (apart _ _ _ _ refl e)
pipe_only words (Attach x n) h e = absurd (apart _ _ _ _ refl e)
pipe_only words (Call x n m v ts None) h e = absurd (apart _ _ _ _ refl e)
pipe_only words (Call x n m v ts (Some z)) h e = absurd (apart _ _ _ _ refl e)
pipe_only words (Take x ns) h e = absurd (apart _ _ _ _ refl e)
pipe_only words (Answer r m v ts None) h e = absurd (apart _ _ _ _ refl e)
pipe_only words (Answer r m v ts (Some z)) h e = absurd (apart _ _ _ _ refl e)
pipe_only words (Raw x b ts) h e = absurd (apart _ _ _ _ refl e)
pipe_only words (CloseToken x) h e = absurd (apart _ _ _ _ refl e)
pipe_only words (CloseEndpoint x n) h e = absurd (apart _ _ _ _ refl e)
pipe_only words (Notify x (Query n)) h e = absurd (apart _ _ _ _ refl e)
pipe_only words (Notify x (Require n v)) h e = absurd (apart _ _ _ _ refl e)
pipe_only words (Notify x Flush) h e = absurd (apart _ _ _ _ refl e)
pipe_only words (Pause x y k) h e = absurd (apart _ _ _ _ refl e)
pipe_only words (Data n x y) h e = absurd (apart _ _ _ _ refl e)
pipe_only words (Flow x f) h e = absurd (no_move (codes "pipe") f refl (first_is _ _ _ _ e))

pub record IsMint (words : List (List ℕ)) (said : Said) : Type 0 where
  pub sort : TokenSort
  pub name : List ℕ
  pub is : said ≡ Mint sort name
  pub are : words ≡ sort_word sort ∷ name ∷ []
  pub one : is_name name ≡ true

pub mint_only : (words : List (List ℕ)) (said : Said) → IsSaid said → codes "mint" ∷ words ≡ said_words said → IsMint words said
mint_only words (Mint s x) h e = record { sort = s; name = x; is = refl; are = rest_is _ _ _ _ e; one = h }
mint_only words (Pipe x y) h e = absurd (apart _ _ _ _ refl e)
mint_only words (Bind x s i) h e = absurd (apart _ _ _ _ refl e)
mint_only words (Associate x s i p) h e = absurd (apart _ _ _ _ refl e)
mint_only words (Attach x n) h e = absurd (apart _ _ _ _ refl e)
mint_only words (Call x n m v ts None) h e = absurd (apart _ _ _ _ refl e)
mint_only words (Call x n m v ts (Some z)) h e = absurd (apart _ _ _ _ refl e)
mint_only words (Take x ns) h e = absurd (apart _ _ _ _ refl e)
mint_only words (Answer r m v ts None) h e = absurd (apart _ _ _ _ refl e)
mint_only words (Answer r m v ts (Some z)) h e = absurd (apart _ _ _ _ refl e)
mint_only words (Raw x b ts) h e = absurd (apart _ _ _ _ refl e)
mint_only words (CloseToken x) h e = absurd (apart _ _ _ _ refl e)
mint_only words (CloseEndpoint x n) h e = absurd (apart _ _ _ _ refl e)
mint_only words (Notify x (Query n)) h e = absurd (apart _ _ _ _ refl e)
mint_only words (Notify x (Require n v)) h e = absurd (apart _ _ _ _ refl e)
mint_only words (Notify x Flush) h e = absurd (apart _ _ _ _ refl e)
mint_only words (Pause x y k) h e = absurd (apart _ _ _ _ refl e)
mint_only words (Data n x y) h e = absurd (apart _ _ _ _ refl e)
mint_only words (Flow x f) h e = absurd (no_move (codes "mint") f refl (first_is _ _ _ _ e))

pub record IsBind (words : List (List ℕ)) (said : Said) : Type 0 where
  pub end : List ℕ
  pub side : EndpointSide
  pub interface : List ℕ
  pub is : said ≡ Bind end side interface
  pub are : words ≡ end ∷ side_word side ∷ interface ∷ []
  pub one : is_name end ≡ true
  pub two : is_interface_word interface ≡ true

pub bind_only : (words : List (List ℕ)) (said : Said) → IsSaid said → codes "bind" ∷ words ≡ said_words said → IsBind words said
bind_only words (Bind x s i) h e = record { end = x; side = s; interface = i; is = refl; are = rest_is _ _ _ _ e; one = h.0; two = h.1 }
bind_only words (Pipe x y) h e = absurd (apart _ _ _ _ refl e)
bind_only words (Mint s x) h e = absurd (apart _ _ _ _ refl e)
bind_only words (Associate x s i p) h e = absurd (apart _ _ _ _ refl e)
bind_only words (Attach x n) h e = absurd (apart _ _ _ _ refl e)
bind_only words (Call x n m v ts None) h e = absurd (apart _ _ _ _ refl e)
bind_only words (Call x n m v ts (Some z)) h e = absurd (apart _ _ _ _ refl e)
bind_only words (Take x ns) h e = absurd (apart _ _ _ _ refl e)
bind_only words (Answer r m v ts None) h e = absurd (apart _ _ _ _ refl e)
bind_only words (Answer r m v ts (Some z)) h e = absurd (apart _ _ _ _ refl e)
bind_only words (Raw x b ts) h e = absurd (apart _ _ _ _ refl e)
bind_only words (CloseToken x) h e = absurd (apart _ _ _ _ refl e)
bind_only words (CloseEndpoint x n) h e = absurd (apart _ _ _ _ refl e)
bind_only words (Notify x (Query n)) h e = absurd (apart _ _ _ _ refl e)
bind_only words (Notify x (Require n v)) h e = absurd (apart _ _ _ _ refl e)
bind_only words (Notify x Flush) h e = absurd (apart _ _ _ _ refl e)
bind_only words (Pause x y k) h e = absurd (apart _ _ _ _ refl e)
bind_only words (Data n x y) h e = absurd (apart _ _ _ _ refl e)
bind_only words (Flow x f) h e = absurd (no_move (codes "bind") f refl (first_is _ _ _ _ e))

pub record IsAssociate (words : List (List ℕ)) (said : Said) : Type 0 where
  pub end : List ℕ
  pub side : EndpointSide
  pub interface : List ℕ
  pub pending : List ℕ
  pub is : said ≡ Associate end side interface pending
  pub are : words ≡ end ∷ side_word side ∷ interface ∷ pending ∷ []
  pub one : is_name end ≡ true
  pub two : is_interface_word interface ≡ true
  pub three : is_name pending ≡ true

pub associate_only : (words : List (List ℕ)) (said : Said) → IsSaid said → codes "associate" ∷ words ≡ said_words said → IsAssociate words said
associate_only words (Associate x s i p) h e = record {
  end = x;
  side = s;
  interface = i;
  pending = p;
  is = refl;
  are = rest_is _ _ _ _ e;
  one = h.0;
  two = h.1;
  three = h.2;
}
associate_only words (Pipe x y) h e = absurd (apart _ _ _ _ refl e)
associate_only words (Mint s x) h e = absurd (apart _ _ _ _ refl e)
associate_only words (Bind x s i) h e = absurd (apart _ _ _ _ refl e)
associate_only words (Attach x n) h e = absurd (apart _ _ _ _ refl e)
associate_only words (Call x n m v ts None) h e = absurd (apart _ _ _ _ refl e)
associate_only words (Call x n m v ts (Some z)) h e = absurd (apart _ _ _ _ refl e)
associate_only words (Take x ns) h e = absurd (apart _ _ _ _ refl e)
associate_only words (Answer r m v ts None) h e = absurd (apart _ _ _ _ refl e)
associate_only words (Answer r m v ts (Some z)) h e = absurd (apart _ _ _ _ refl e)
associate_only words (Raw x b ts) h e = absurd (apart _ _ _ _ refl e)
associate_only words (CloseToken x) h e = absurd (apart _ _ _ _ refl e)
associate_only words (CloseEndpoint x n) h e = absurd (apart _ _ _ _ refl e)
associate_only words (Notify x (Query n)) h e = absurd (apart _ _ _ _ refl e)
associate_only words (Notify x (Require n v)) h e = absurd (apart _ _ _ _ refl e)
associate_only words (Notify x Flush) h e = absurd (apart _ _ _ _ refl e)
associate_only words (Pause x y k) h e = absurd (apart _ _ _ _ refl e)
associate_only words (Data n x y) h e = absurd (apart _ _ _ _ refl e)
associate_only words (Flow x f) h e = absurd (no_move (codes "associate") f refl (first_is _ _ _ _ e))

pub record IsAttach (words : List (List ℕ)) (said : Said) : Type 0 where
  pub pending : List ℕ
  pub seq : ℕ
  pub is : said ≡ Attach pending seq
  pub are : words ≡ pending ∷ decimal seq ∷ []
  pub one : is_name pending ≡ true

pub attach_only : (words : List (List ℕ)) (said : Said) → IsSaid said → codes "attach" ∷ words ≡ said_words said → IsAttach words said
attach_only words (Attach x n) h e = record { pending = x; seq = n; is = refl; are = rest_is _ _ _ _ e; one = h }
attach_only words (Pipe x y) h e = absurd (apart _ _ _ _ refl e)
attach_only words (Mint s x) h e = absurd (apart _ _ _ _ refl e)
attach_only words (Bind x s i) h e = absurd (apart _ _ _ _ refl e)
attach_only words (Associate x s i p) h e = absurd (apart _ _ _ _ refl e)
attach_only words (Call x n m v ts None) h e = absurd (apart _ _ _ _ refl e)
attach_only words (Call x n m v ts (Some z)) h e = absurd (apart _ _ _ _ refl e)
attach_only words (Take x ns) h e = absurd (apart _ _ _ _ refl e)
attach_only words (Answer r m v ts None) h e = absurd (apart _ _ _ _ refl e)
attach_only words (Answer r m v ts (Some z)) h e = absurd (apart _ _ _ _ refl e)
attach_only words (Raw x b ts) h e = absurd (apart _ _ _ _ refl e)
attach_only words (CloseToken x) h e = absurd (apart _ _ _ _ refl e)
attach_only words (CloseEndpoint x n) h e = absurd (apart _ _ _ _ refl e)
attach_only words (Notify x (Query n)) h e = absurd (apart _ _ _ _ refl e)
attach_only words (Notify x (Require n v)) h e = absurd (apart _ _ _ _ refl e)
attach_only words (Notify x Flush) h e = absurd (apart _ _ _ _ refl e)
attach_only words (Pause x y k) h e = absurd (apart _ _ _ _ refl e)
attach_only words (Data n x y) h e = absurd (apart _ _ _ _ refl e)
attach_only words (Flow x f) h e = absurd (no_move (codes "attach") f refl (first_is _ _ _ _ e))

pub record IsTake (words : List (List ℕ)) (said : Said) : Type 0 where
  pub end : List ℕ
  pub names : List (List ℕ)
  pub is : said ≡ Take end names
  pub are : words ≡ end ∷ names
  pub one : is_name end ≡ true
  pub two : are_names names ≡ true

pub take_only : (words : List (List ℕ)) (said : Said) → IsSaid said → codes "take" ∷ words ≡ said_words said → IsTake words said
take_only words (Take x ns) h e = record { end = x; names = ns; is = refl; are = rest_is _ _ _ _ e; one = h.0; two = h.1 }
take_only words (Pipe x y) h e = absurd (apart _ _ _ _ refl e)
take_only words (Mint s x) h e = absurd (apart _ _ _ _ refl e)
take_only words (Bind x s i) h e = absurd (apart _ _ _ _ refl e)
take_only words (Associate x s i p) h e = absurd (apart _ _ _ _ refl e)
take_only words (Attach x n) h e = absurd (apart _ _ _ _ refl e)
take_only words (Call x n m v ts None) h e = absurd (apart _ _ _ _ refl e)
take_only words (Call x n m v ts (Some z)) h e = absurd (apart _ _ _ _ refl e)
take_only words (Answer r m v ts None) h e = absurd (apart _ _ _ _ refl e)
take_only words (Answer r m v ts (Some z)) h e = absurd (apart _ _ _ _ refl e)
take_only words (Raw x b ts) h e = absurd (apart _ _ _ _ refl e)
take_only words (CloseToken x) h e = absurd (apart _ _ _ _ refl e)
take_only words (CloseEndpoint x n) h e = absurd (apart _ _ _ _ refl e)
take_only words (Notify x (Query n)) h e = absurd (apart _ _ _ _ refl e)
take_only words (Notify x (Require n v)) h e = absurd (apart _ _ _ _ refl e)
take_only words (Notify x Flush) h e = absurd (apart _ _ _ _ refl e)
take_only words (Pause x y k) h e = absurd (apart _ _ _ _ refl e)
take_only words (Data n x y) h e = absurd (apart _ _ _ _ refl e)
take_only words (Flow x f) h e = absurd (no_move (codes "take") f refl (first_is _ _ _ _ e))

pub record IsRaw (words : List (List ℕ)) (said : Said) : Type 0 where
  pub end : List ℕ
  pub bytes : List ℕ
  pub tokens : List (List ℕ)
  pub is : said ≡ Raw end bytes tokens
  pub are : words ≡ end ∷ bytes ∷ tokens
  pub one : is_name end ≡ true
  pub two : IsHexWord bytes
  pub three : are_names tokens ≡ true

pub raw_only : (words : List (List ℕ)) (said : Said) → IsSaid said → codes "raw" ∷ words ≡ said_words said → IsRaw words said
raw_only words (Raw x b ts) h e = record {
  end = x;
  bytes = b;
  tokens = ts;
  is = refl;
  are = rest_is _ _ _ _ e;
  one = h.0;
  two = h.1;
  three = h.2;
}
raw_only words (Pipe x y) h e = absurd (apart _ _ _ _ refl e)
raw_only words (Mint s x) h e = absurd (apart _ _ _ _ refl e)
raw_only words (Bind x s i) h e = absurd (apart _ _ _ _ refl e)
raw_only words (Associate x s i p) h e = absurd (apart _ _ _ _ refl e)
raw_only words (Attach x n) h e = absurd (apart _ _ _ _ refl e)
raw_only words (Call x n m v ts None) h e = absurd (apart _ _ _ _ refl e)
raw_only words (Call x n m v ts (Some z)) h e = absurd (apart _ _ _ _ refl e)
raw_only words (Take x ns) h e = absurd (apart _ _ _ _ refl e)
raw_only words (Answer r m v ts None) h e = absurd (apart _ _ _ _ refl e)
raw_only words (Answer r m v ts (Some z)) h e = absurd (apart _ _ _ _ refl e)
raw_only words (CloseToken x) h e = absurd (apart _ _ _ _ refl e)
raw_only words (CloseEndpoint x n) h e = absurd (apart _ _ _ _ refl e)
raw_only words (Notify x (Query n)) h e = absurd (apart _ _ _ _ refl e)
raw_only words (Notify x (Require n v)) h e = absurd (apart _ _ _ _ refl e)
raw_only words (Notify x Flush) h e = absurd (apart _ _ _ _ refl e)
raw_only words (Pause x y k) h e = absurd (apart _ _ _ _ refl e)
raw_only words (Data n x y) h e = absurd (apart _ _ _ _ refl e)
raw_only words (Flow x f) h e = absurd (no_move (codes "raw") f refl (first_is _ _ _ _ e))

pub record IsQuery (words : List (List ℕ)) (said : Said) : Type 0 where
  pub end : List ℕ
  pub id : ℕ
  pub is : said ≡ Notify end (Query id)
  pub are : words ≡ endpoint_word end id ∷ []
  pub named : is_name end ≡ true
  pub small : id < 2 ^ 32

pub query_only : (words : List (List ℕ)) (said : Said) → IsSaid said → codes "query" ∷ words ≡ said_words said → IsQuery words said
query_only words (Notify x (Query n)) h e = record { end = x; id = n; is = refl; are = rest_is _ _ _ _ e; named = h.0; small = h.1 }
query_only words (Pipe x y) h e = absurd (apart _ _ _ _ refl e)
query_only words (Mint s x) h e = absurd (apart _ _ _ _ refl e)
query_only words (Bind x s i) h e = absurd (apart _ _ _ _ refl e)
query_only words (Associate x s i p) h e = absurd (apart _ _ _ _ refl e)
query_only words (Attach x n) h e = absurd (apart _ _ _ _ refl e)
query_only words (Call x n m v ts None) h e = absurd (apart _ _ _ _ refl e)
query_only words (Call x n m v ts (Some z)) h e = absurd (apart _ _ _ _ refl e)
query_only words (Take x ns) h e = absurd (apart _ _ _ _ refl e)
query_only words (Answer r m v ts None) h e = absurd (apart _ _ _ _ refl e)
query_only words (Answer r m v ts (Some z)) h e = absurd (apart _ _ _ _ refl e)
query_only words (Raw x b ts) h e = absurd (apart _ _ _ _ refl e)
query_only words (CloseToken x) h e = absurd (apart _ _ _ _ refl e)
query_only words (CloseEndpoint x n) h e = absurd (apart _ _ _ _ refl e)
query_only words (Notify x (Require n v)) h e = absurd (apart _ _ _ _ refl e)
query_only words (Notify x Flush) h e = absurd (apart _ _ _ _ refl e)
query_only words (Pause x y k) h e = absurd (apart _ _ _ _ refl e)
query_only words (Data n x y) h e = absurd (apart _ _ _ _ refl e)
query_only words (Flow x f) h e = absurd (no_move (codes "query") f refl (first_is _ _ _ _ e))

pub record IsRequire (words : List (List ℕ)) (said : Said) : Type 0 where
  pub end : List ℕ
  pub id : ℕ
  pub version : ℕ
  pub is : said ≡ Notify end (Require id version)
  pub are : words ≡ endpoint_word end id ∷ decimal version ∷ []
  pub named : is_name end ≡ true
  pub small : id < 2 ^ 32
  pub narrow : version < 2 ^ 32

pub require_only : (words : List (List ℕ)) (said : Said) → IsSaid said → codes "require" ∷ words ≡ said_words said → IsRequire words said
require_only words (Notify x (Require n v)) h e = record {
  end = x;
  id = n;
  version = v;
  is = refl;
  are = rest_is _ _ _ _ e;
  named = h.0;
  small = h.1.0;
  narrow = h.1.1;
}
require_only words (Pipe x y) h e = absurd (apart _ _ _ _ refl e)
require_only words (Mint s x) h e = absurd (apart _ _ _ _ refl e)
require_only words (Bind x s i) h e = absurd (apart _ _ _ _ refl e)
require_only words (Associate x s i p) h e = absurd (apart _ _ _ _ refl e)
require_only words (Attach x n) h e = absurd (apart _ _ _ _ refl e)
require_only words (Call x n m v ts None) h e = absurd (apart _ _ _ _ refl e)
require_only words (Call x n m v ts (Some z)) h e = absurd (apart _ _ _ _ refl e)
require_only words (Take x ns) h e = absurd (apart _ _ _ _ refl e)
require_only words (Answer r m v ts None) h e = absurd (apart _ _ _ _ refl e)
require_only words (Answer r m v ts (Some z)) h e = absurd (apart _ _ _ _ refl e)
require_only words (Raw x b ts) h e = absurd (apart _ _ _ _ refl e)
require_only words (CloseToken x) h e = absurd (apart _ _ _ _ refl e)
require_only words (CloseEndpoint x n) h e = absurd (apart _ _ _ _ refl e)
require_only words (Notify x (Query n)) h e = absurd (apart _ _ _ _ refl e)
require_only words (Notify x Flush) h e = absurd (apart _ _ _ _ refl e)
require_only words (Pause x y k) h e = absurd (apart _ _ _ _ refl e)
require_only words (Data n x y) h e = absurd (apart _ _ _ _ refl e)
require_only words (Flow x f) h e = absurd (no_move (codes "require") f refl (first_is _ _ _ _ e))

pub record IsFlush (words : List (List ℕ)) (said : Said) : Type 0 where
  pub end : List ℕ
  pub is : said ≡ Notify end Flush
  pub are : words ≡ end ∷ []
  pub named : is_name end ≡ true

pub flush_only : (words : List (List ℕ)) (said : Said) → IsSaid said → codes "flush" ∷ words ≡ said_words said → IsFlush words said
flush_only words (Notify x Flush) h e = record { end = x; is = refl; are = rest_is _ _ _ _ e; named = h.0 }
flush_only words (Pipe x y) h e = absurd (apart _ _ _ _ refl e)
flush_only words (Mint s x) h e = absurd (apart _ _ _ _ refl e)
flush_only words (Bind x s i) h e = absurd (apart _ _ _ _ refl e)
flush_only words (Associate x s i p) h e = absurd (apart _ _ _ _ refl e)
flush_only words (Attach x n) h e = absurd (apart _ _ _ _ refl e)
flush_only words (Call x n m v ts None) h e = absurd (apart _ _ _ _ refl e)
flush_only words (Call x n m v ts (Some z)) h e = absurd (apart _ _ _ _ refl e)
flush_only words (Take x ns) h e = absurd (apart _ _ _ _ refl e)
flush_only words (Answer r m v ts None) h e = absurd (apart _ _ _ _ refl e)
flush_only words (Answer r m v ts (Some z)) h e = absurd (apart _ _ _ _ refl e)
flush_only words (Raw x b ts) h e = absurd (apart _ _ _ _ refl e)
flush_only words (CloseToken x) h e = absurd (apart _ _ _ _ refl e)
flush_only words (CloseEndpoint x n) h e = absurd (apart _ _ _ _ refl e)
flush_only words (Notify x (Query n)) h e = absurd (apart _ _ _ _ refl e)
flush_only words (Notify x (Require n v)) h e = absurd (apart _ _ _ _ refl e)
flush_only words (Pause x y k) h e = absurd (apart _ _ _ _ refl e)
flush_only words (Data n x y) h e = absurd (apart _ _ _ _ refl e)
flush_only words (Flow x f) h e = absurd (no_move (codes "flush") f refl (first_is _ _ _ _ e))

pub record IsPause (words : List (List ℕ)) (said : Said) : Type 0 where
  pub end : List ℕ
  pub other : List ℕ
  pub flush : ℕ
  pub is : said ≡ Pause end other flush
  pub are : words ≡ end ∷ other ∷ decimal flush ∷ []
  pub one : is_name end ≡ true
  pub two : is_name other ≡ true
  pub small : flush < 2 ^ 32

pub pause_only : (words : List (List ℕ)) (said : Said) → IsSaid said → codes "pause" ∷ words ≡ said_words said → IsPause words said
pause_only words (Pause x y k) h e = record {
  end = x;
  other = y;
  flush = k;
  is = refl;
  are = rest_is _ _ _ _ e;
  one = h.0;
  two = h.1;
  small = h.2;
}
pause_only words (Pipe x y) h e = absurd (apart _ _ _ _ refl e)
pause_only words (Mint s x) h e = absurd (apart _ _ _ _ refl e)
pause_only words (Bind x s i) h e = absurd (apart _ _ _ _ refl e)
pause_only words (Associate x s i p) h e = absurd (apart _ _ _ _ refl e)
pause_only words (Attach x n) h e = absurd (apart _ _ _ _ refl e)
pause_only words (Call x n m v ts None) h e = absurd (apart _ _ _ _ refl e)
pause_only words (Call x n m v ts (Some z)) h e = absurd (apart _ _ _ _ refl e)
pause_only words (Take x ns) h e = absurd (apart _ _ _ _ refl e)
pause_only words (Answer r m v ts None) h e = absurd (apart _ _ _ _ refl e)
pause_only words (Answer r m v ts (Some z)) h e = absurd (apart _ _ _ _ refl e)
pause_only words (Raw x b ts) h e = absurd (apart _ _ _ _ refl e)
pause_only words (CloseToken x) h e = absurd (apart _ _ _ _ refl e)
pause_only words (CloseEndpoint x n) h e = absurd (apart _ _ _ _ refl e)
pause_only words (Notify x (Query n)) h e = absurd (apart _ _ _ _ refl e)
pause_only words (Notify x (Require n v)) h e = absurd (apart _ _ _ _ refl e)
pause_only words (Notify x Flush) h e = absurd (apart _ _ _ _ refl e)
pause_only words (Data n x y) h e = absurd (apart _ _ _ _ refl e)
pause_only words (Flow x f) h e = absurd (no_move (codes "pause") f refl (first_is _ _ _ _ e))

pub record IsData (words : List (List ℕ)) (said : Said) : Type 0 where
  pub size : ℕ
  pub producer : List ℕ
  pub consumer : List ℕ
  pub is : said ≡ Data size producer consumer
  pub are : words ≡ decimal size ∷ producer ∷ consumer ∷ []
  pub one : is_name producer ≡ true
  pub two : is_name consumer ≡ true
  pub small : size < 2 ^ 32

pub data_only : (words : List (List ℕ)) (said : Said) → IsSaid said → codes "data" ∷ words ≡ said_words said → IsData words said
data_only words (Data n x y) h e = record {
  size = n;
  producer = x;
  consumer = y;
  is = refl;
  are = rest_is _ _ _ _ e;
  one = h.0;
  two = h.1;
  small = h.2;
}
data_only words (Pipe x y) h e = absurd (apart _ _ _ _ refl e)
data_only words (Mint s x) h e = absurd (apart _ _ _ _ refl e)
data_only words (Bind x s i) h e = absurd (apart _ _ _ _ refl e)
data_only words (Associate x s i p) h e = absurd (apart _ _ _ _ refl e)
data_only words (Attach x n) h e = absurd (apart _ _ _ _ refl e)
data_only words (Call x n m v ts None) h e = absurd (apart _ _ _ _ refl e)
data_only words (Call x n m v ts (Some z)) h e = absurd (apart _ _ _ _ refl e)
data_only words (Take x ns) h e = absurd (apart _ _ _ _ refl e)
data_only words (Answer r m v ts None) h e = absurd (apart _ _ _ _ refl e)
data_only words (Answer r m v ts (Some z)) h e = absurd (apart _ _ _ _ refl e)
data_only words (Raw x b ts) h e = absurd (apart _ _ _ _ refl e)
data_only words (CloseToken x) h e = absurd (apart _ _ _ _ refl e)
data_only words (CloseEndpoint x n) h e = absurd (apart _ _ _ _ refl e)
data_only words (Notify x (Query n)) h e = absurd (apart _ _ _ _ refl e)
data_only words (Notify x (Require n v)) h e = absurd (apart _ _ _ _ refl e)
data_only words (Notify x Flush) h e = absurd (apart _ _ _ _ refl e)
data_only words (Pause x y k) h e = absurd (apart _ _ _ _ refl e)
data_only words (Flow x f) h e = absurd (no_move (codes "data") f refl (first_is _ _ _ _ e))

pub record IsFlow (token : List ℕ) (moved : Moved) (said : Said) : Type 0 where
  pub name : List ℕ
  pub found : Moved
  pub is : said ≡ Flow name found
  pub named : token ≡ name
  pub word : move_word moved ≡ move_word found
  pub tail : move_tail moved ≡ move_tail found
  pub fine : IsMoved found

pub flow_only : (token : List ℕ) (f : Moved) (said : Said) → IsSaid said → move_word f ∷ token ∷ move_tail f ≡ said_words said → IsFlow token f said
flow_only token f (Flow x g) h e = record {
  name = x;
  found = g;
  is = refl;
  named = first_is _ _ _ _ (rest_is _ _ _ _ e);
  word = first_is _ _ _ _ e;
  tail = rest_is _ _ _ _ (rest_is _ _ _ _ e);
  fine = h.1;
}
flow_only token f (Pipe x y) h e = absurd (no_move (codes "pipe") f refl (sym (first_is _ _ _ _ e)))
flow_only token f (Mint s x) h e = absurd (no_move (codes "mint") f refl (sym (first_is _ _ _ _ e)))
flow_only token f (Bind x s i) h e = absurd (no_move (codes "bind") f refl (sym (first_is _ _ _ _ e)))
flow_only token f (Associate x s i p) h e = absurd (no_move (codes "associate") f refl (sym (first_is _ _ _ _ e)))
flow_only token f (Attach x n) h e = absurd (no_move (codes "attach") f refl (sym (first_is _ _ _ _ e)))
flow_only token f (Call x n m v ts None) h e = absurd (no_move (codes "call") f refl (sym (first_is _ _ _ _ e)))
flow_only token f (Call x n m v ts (Some z)) h e = absurd (no_move (codes "call-at") f refl (sym (first_is _ _ _ _ e)))
flow_only token f (Take x ns) h e = absurd (no_move (codes "take") f refl (sym (first_is _ _ _ _ e)))
flow_only token f (Answer r m v ts None) h e = absurd (no_move (codes "answer") f refl (sym (first_is _ _ _ _ e)))
flow_only token f (Answer r m v ts (Some z)) h e = absurd (no_move (codes "answer-at") f refl (sym (first_is _ _ _ _ e)))
flow_only token f (Raw x b ts) h e = absurd (no_move (codes "raw") f refl (sym (first_is _ _ _ _ e)))
flow_only token f (CloseToken x) h e = absurd (no_move (codes "close") f refl (sym (first_is _ _ _ _ e)))
flow_only token f (CloseEndpoint x n) h e = absurd (no_move (codes "close") f refl (sym (first_is _ _ _ _ e)))
flow_only token f (Notify x (Query n)) h e = absurd (no_move (codes "query") f refl (sym (first_is _ _ _ _ e)))
flow_only token f (Notify x (Require n v)) h e = absurd (no_move (codes "require") f refl (sym (first_is _ _ _ _ e)))
flow_only token f (Notify x Flush) h e = absurd (no_move (codes "flush") f refl (sym (first_is _ _ _ _ e)))
flow_only token f (Pause x y k) h e = absurd (no_move (codes "pause") f refl (sym (first_is _ _ _ _ e)))
flow_only token f (Data n x y) h e = absurd (no_move (codes "data") f refl (sym (first_is _ _ _ _ e)))

-- a close is of a token, or of an endpoint
pub data Closes (words : List (List ℕ)) (said : Said) : Type 0 where
  Token : (x : List ℕ) → said ≡ CloseToken x → words ≡ x ∷ [] → is_name x ≡ true → Closes words said
  Endpoint : (x : List ℕ) (n : ℕ) → said ≡ CloseEndpoint x n → words ≡ endpoint_word x n ∷ [] → is_name x ≡ true → n < 2 ^ 32 → Closes words said

pub close_only : (words : List (List ℕ)) (said : Said) → IsSaid said → codes "close" ∷ words ≡ said_words said → Closes words said
close_only words (CloseToken x) h e = Token x refl (rest_is _ _ _ _ e) h
close_only words (CloseEndpoint x n) h e = Endpoint x n refl (rest_is _ _ _ _ e) h.0 h.1
close_only words (Pipe x y) h e = absurd (apart _ _ _ _ refl e)
close_only words (Mint s x) h e = absurd (apart _ _ _ _ refl e)
close_only words (Bind x s i) h e = absurd (apart _ _ _ _ refl e)
close_only words (Associate x s i p) h e = absurd (apart _ _ _ _ refl e)
close_only words (Attach x n) h e = absurd (apart _ _ _ _ refl e)
close_only words (Call x n m v ts None) h e = absurd (apart _ _ _ _ refl e)
close_only words (Call x n m v ts (Some z)) h e = absurd (apart _ _ _ _ refl e)
close_only words (Take x ns) h e = absurd (apart _ _ _ _ refl e)
close_only words (Answer r m v ts None) h e = absurd (apart _ _ _ _ refl e)
close_only words (Answer r m v ts (Some z)) h e = absurd (apart _ _ _ _ refl e)
close_only words (Raw x b ts) h e = absurd (apart _ _ _ _ refl e)
close_only words (Notify x (Query n)) h e = absurd (apart _ _ _ _ refl e)
close_only words (Notify x (Require n v)) h e = absurd (apart _ _ _ _ refl e)
close_only words (Notify x Flush) h e = absurd (apart _ _ _ _ refl e)
close_only words (Pause x y k) h e = absurd (apart _ _ _ _ refl e)
close_only words (Data n x y) h e = absurd (apart _ _ _ _ refl e)
close_only words (Flow x f) h e = absurd (no_move (codes "close") f refl (first_is _ _ _ _ e))
