-- What the reading of a file by its rule says of all the tokens.
use Rattle.std.specs.Prelude.{◌≡◌, ℕ, ◌-◌, List, [], ◌∷◌, length, Result, Ok, Err}
use Rattle.mojom_ast.specs.declared.fault.Fault.TheVariants.{Unexpected, TooNested}
use Rattle.mojom_ast.specs.declared.token.Token.{Token}
use Rattle.mojom_ast.specs.declared.file.File.{File}
use Rattle.mojom_ast.specs.Lang.{Read}
use Rattle.mojom_parser.specs.declared.error.ParseError.{ParseError}
use Rattle.mojom_parser.specs.declared.error.ParseError.TheVariants as errors

-- What reading by the rule of a file says of so many tokens.
abbrev pub verdict : ℕ → Read File → Result File ParseError
verdict n (Ok x) = verdict_ok n x.0 x.1
  where
    verdict_ok : ℕ → File → List Token → Result File ParseError
    verdict_ok m f [] = Ok f
    verdict_ok m f (t ∷ ts) = Err (errors.Unexpected (m - length (t ∷ ts)))
verdict n (Err (Unexpected left)) = Err (errors.Unexpected (n - left))
verdict n (Err (TooNested left)) = Err (errors.TooNested (n - left))

-- The answer is the verdict, unless memory ran out.
abbrev pub Agrees : Result File ParseError → Result File ParseError → Type 0
Agrees (Ok f) v = v ≡ Ok f
Agrees (Err errors.Memory) v = Unit {0}
Agrees (Err (errors.Unexpected at)) v = v ≡ Err (errors.Unexpected at)
Agrees (Err (errors.TooNested at)) v = v ≡ Err (errors.TooNested at)
