-- The terminals of a sentence, and what a stack derives before them.
use Rattle.std.proofs.Common.{◌≡◌, ℕ, true, List, [], ◌∷◌, ◌++◌, map, refl, ap, sym, subst}
use Rattle.co_rules.specs.Terminal.{terminal_of}
use Rattle.co_rules.specs.declared.symbol.Nonterminal.{Nonterminal}
use Rattle.co_rules.specs.declared.symbol.Pattern.{Pattern}
use Rattle.co_rules.specs.declared.symbol.Symbol.{Symbol}
use Rattle.co_rules.specs.declared.symbol.Symbol.TheVariants.{Token, One, Maybe, Many, Close}
use Rattle.co_rules.specs.declared.symbol.Terminal.{Terminal}
use Rattle.co_rules.specs.Derives.{Begins, Derives, token, close, one, some, none, more, last}
use Rattle.co_tree.specs.Piece.{Piece, token as spelled, line, node, opens, enter, leave, rule}
use Rattle.co_rules.specs.Pattern.{admits}
use Rattle.co_tree.specs.Derives.{kinds}

-- the terminals of the pieces, and then these
abbrev pub seen : List (List ℕ) → List Piece → List Terminal → List Terminal
seen C [] ts = ts
seen C (spelled k ∷ ps) ts = terminal_of C k ∷ seen C ps ts
seen C (line ∷ ps) ts = seen C ps ts
seen C (node at ∷ ps) ts = seen C ps ts
seen C (opens ∷ ps) ts = seen C ps ts
seen C (enter ∷ ps) ts = seen C ps ts
seen C (leave ∷ ps) ts = seen C ps ts

pub seen-append : (C : List (List ℕ)) (ps qs : List Piece) (ts : List Terminal) → seen C (ps ++ qs) ts ≡ seen C ps (seen C qs ts)
seen-append C [] qs ts = refl
seen-append C (spelled k ∷ ps) qs ts = ap (λ us. terminal_of C k ∷ us) (seen-append C ps qs ts)
seen-append C (line ∷ ps) qs ts = seen-append C ps qs ts
seen-append C (node at ∷ ps) qs ts = seen-append C ps qs ts
seen-append C (opens ∷ ps) qs ts = seen-append C ps qs ts
seen-append C (enter ∷ ps) qs ts = seen-append C ps qs ts
seen-append C (leave ∷ ps) qs ts = seen-append C ps qs ts

pub seen-kinds : (C : List (List ℕ)) (ps : List Piece) → seen C ps [] ≡ map (terminal_of C) (kinds ps)
seen-kinds C [] = refl
seen-kinds C (spelled k ∷ ps) = ap (λ us. terminal_of C k ∷ us) (seen-kinds C ps)
seen-kinds C (line ∷ ps) = seen-kinds C ps
seen-kinds C (node at ∷ ps) = seen-kinds C ps
seen-kinds C (opens ∷ ps) = seen-kinds C ps
seen-kinds C (enter ∷ ps) = seen-kinds C ps
seen-kinds C (leave ∷ ps) = seen-kinds C ps

-- pieces after pieces
pub both : {S : List Symbol} (C : List (List ℕ)) (ps qs : List Piece) (ts : List Terminal) → Derives S (seen C ps (seen C qs ts)) → Derives S (seen C (ps ++ qs) ts)
both {S} C ps qs ts d = subst (λ us. Derives S us) (sym (seen-append C ps qs ts)) d

-- pieces of a rule of their own
pub ruled : {S : List Symbol} (C : List (List ℕ)) (ps : List Piece) (ts : List Terminal) → Derives S (seen C ps ts) → Derives S (seen C (rule ps) ts)
ruled C ps ts d = both C ps (leave ∷ []) ts d

-- ---- the steps of a derivation

-- a token
pub by_token : {p : Pattern} {R : List Symbol} {t : Terminal} {ts : List Terminal} → admits p t ≡ true → Derives R ts → Derives (Token p ∷ R) (t ∷ ts)
by_token {p} {R} {t} {ts} h d = token p R t ts h d

-- a nonterminal by one of its rules
pub go : {n : Nonterminal} {R body : List Symbol} {t : Terminal} {ts : List Terminal} → Begins n t body → Derives (body ++ R) ts → Derives (One n ∷ R) (t ∷ ts)
go {n} {R} {body} {t} {ts} b d = one n R body t ts b d

pub may : {n : Nonterminal} {R body : List Symbol} {t : Terminal} {ts : List Terminal} → Begins n t body → Derives (body ++ R) ts → Derives (Maybe n ∷ R) (t ∷ ts)
may {n} {R} {body} {t} {ts} b d = some n R body t ts b d

pub again : {n : Nonterminal} {R body : List Symbol} {t : Terminal} {ts : List Terminal} → Begins n t body → Derives (body ++ Many n ∷ R) ts → Derives (Many n ∷ R) (t ∷ ts)
again {n} {R} {body} {t} {ts} b d = more n R body t ts b d

pub skip : {n : Nonterminal} {R : List Symbol} {ts : List Terminal} → Derives R ts → Derives (Maybe n ∷ R) ts
skip {n} {R} {ts} d = none n R ts d

pub enough : {n : Nonterminal} {R : List Symbol} {ts : List Terminal} → Derives R ts → Derives (Many n ∷ R) ts
enough {n} {R} {ts} d = last n R ts d

pub shut : {R : List Symbol} {ts : List Terminal} → Derives R ts → Derives (Close ∷ R) ts
shut {R} {ts} d = close R ts d

-- what a nonterminal derives, it derives where it may be left out or stand several times
pub maybe : {n : Nonterminal} {R : List Symbol} {ts : List Terminal} → Derives (One n ∷ R) ts → Derives (Maybe n ∷ R) ts
maybe (one n R body t ts b d) = some n R body t ts b d
