-- Pieces with a token among them.
use Rattle.std.proofs.Common.{◌≡◌, true, List, [], ◌∷◌, ◌++◌, refl}
use Rattle.co_tree.specs.declared.declarations.FunctionName.{FunctionName}
use Rattle.co_tree.specs.declared.declarations.FunctionName.TheVariants as function_name
use Rattle.co_tree.specs.Declarations.{function_named}
use Rattle.co_tree.specs.Piece.{Piece, token, line, node, opens, enter, leave}
use Rattle.co_reads_statements.proofs.Pieces.{has_token}

pub behind_token : (ps qs : List Piece) → has_token qs ≡ true → has_token (ps ++ qs) ≡ true
behind_token [] qs h = h
behind_token (token k ∷ ps) qs h = refl
behind_token (line ∷ ps) qs h = behind_token ps qs h
behind_token (node at ∷ ps) qs h = behind_token ps qs h
behind_token (opens ∷ ps) qs h = behind_token ps qs h
behind_token (enter ∷ ps) qs h = behind_token ps qs h
behind_token (leave ∷ ps) qs h = behind_token ps qs h

pub named_token : (called : FunctionName) → has_token (function_named called) ≡ true
named_token (function_name.Name text) = refl
named_token function_name.OperatorCoAwait = refl
named_token function_name.OperatorNew = refl
named_token function_name.OperatorDelete = refl
