-- `reader::reading::Reader::take_found`: a lexeme is taken as its token.
use mathlib.Core.Path.{refl, subst}
use Rattle.reader.specs.Text.{FoundHere}
use Rattle.reader.proofs.Spelling.{here_within, beside, lexeme_taken, lexeme_suits, nothing_taken, stray_taken}
use Rattle.reader.proofs.taking.Reader.take_found.Goals as goal

pub token_of-y-requires : goal.token_of-y-requires
token_of-y-requires c = here_within (subst (FoundHere _ _) c.in-Lexeme.is c.requires.text_len_bound.1)

pub contents_of-name-requires : goal.contents_of-name-requires
contents_of-name-requires c = (c.token_of-y.ensures.room, c.token_of-y.ensures.within)

pub take-requires : goal.take-requires
take-requires c = record { reader_reached = c.requires.reader_reached; beside = beside c.token_of-y.ensures (subst (FoundHere _ _) c.in-Lexeme.is c.requires.text_len_bound.1) c.requires.text_len_bound.0 c.contents_of-name.ensures }

pub returns-in-Nothing : goal.returns-in-Nothing
returns-in-Nothing c = record { takes_found = rw c.in-Nothing.is nothing_taken; suits = rw c.in-Nothing.is refl }

pub shape_of-f : goal.shape_of-f
shape_of-f c = c.take.auto.f

pub shape_of-names : goal.shape_of-names
shape_of-names c = c.take.auto.names

pub shape_of-pend : goal.shape_of-pend
shape_of-pend c = c.take.auto.pend

pub shape_of-last : goal.shape_of-last
shape_of-last c = c.take.auto.last

pub shape_of-before : goal.shape_of-before
shape_of-before c = c.take.auto.before

pub returns-in-Lexeme : goal.returns-in-Lexeme
returns-in-Lexeme c = record {
  takes_found = rw c.in-Lexeme.is (lexeme_taken c.token_of-y.ensures c.contents_of-name.ensures.0 c.take.ensures.takes);
  suits = rw c.in-Lexeme.is (lexeme_suits c.token_of-y.ensures c.take.result c.take.ensures.suits);
}

pub returns-in-Stray : goal.returns-in-Stray
returns-in-Stray c = record { takes_found = rw c.in-Stray.is stray_taken; suits = tt }
