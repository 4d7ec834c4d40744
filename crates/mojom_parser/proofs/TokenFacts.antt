-- What tells identifiers, numbers and strings from other tokens, by their classes.
use Rattle.mojom_ast.proofs.ClassFacts.{identifier_is, keyword_no_identifier, symbol_no_identifier, identifier_no_number, keyword_no_number, symbol_no_number, identifier_no_string, keyword_no_string, symbol_no_string}

pub ruleset identifiers_alone = (identifier_is, keyword_no_identifier, symbol_no_identifier)

pub ruleset numbers_alone = (identifier_no_number, keyword_no_number, symbol_no_number)

pub ruleset strings_alone = (identifier_no_string, keyword_no_string, symbol_no_string)
