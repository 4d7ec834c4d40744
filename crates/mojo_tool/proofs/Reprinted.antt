-- A print of a print.
use Rattle.std.proofs.Common.{ℕ, List}
use Rattle.mojom_ast.specs.declared.file.File.{File}
use Rattle.mojom_print.specs.FileText.{file_text}
use Rattle.mojom_print.specs.Again.{TakenAgain}
use Rattle.mojom_print.proofs.Taken.{taken_again}
use Rattle.mojom_compile.specs.Compiled.{IsParsed}
use Rattle.mojom_compile.proofs.Readings.{one_tree}
use Rattle.mojo_tool.specs.Again.{PrintsAgain}

-- a printed text has a tree of that text
pub printed_again : (bytes : List ℕ) (tree : File) → IsParsed bytes tree → PrintsAgain tree
printed_again bytes tree first =
    let again : TakenAgain tree = taken_again bytes first.tokens tree first.are (first.spelled, first.shallow) in
    let parsed : IsParsed (file_text tree) again.other = record {
      tokens = again.tokens;
      are = again.are_tokens;
      shallow = again.answer.1;
      spelled = again.answer.0;
    } in
    record {
      other = again.other;
      parsed = parsed;
      only = λ another is. (one_tree (file_text tree)).one_tree another again.other is parsed;
      same = again.same;
      text = again.text;
    }
