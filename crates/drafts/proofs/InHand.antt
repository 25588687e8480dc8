-- The numbers of a draft after a change of the instruction in hand: their bounds, and what they count.
-- Assumes nothing.
use mathlib.Core.Path.{◌≡◌, refl, sym, ap, ◌∙◌}
use mathlib.Core.List.{List, map}
use Prim.Native.Nat.{ℕ, ◌≤◌, ◌<◌, min}
use native.Mathlib.Omega.{arith}
use lib.ListN.{length, length-map}
use Rattle.language.specs.Programs.{max_rows, max_entries}
use Rattle.language.specs.Reading.{Draft as Draftᴸ, OpenBlock, Parts, Mention, draft_of, open_rows, phi_entries}
use Rattle.drafts.specs.Mentions.{max_names, name_number, kept}
use Rattle.drafts.specs.State.{Bounded, Counts}
use Rattle.drafts.specs.declared.state.Draft.{Draft}
use Rattle.drafts.proofs.FirstTwo.{Firsts}
use Rattle.drafts.proofs.StateLaws.{SameNames}

-- The draft with other numbers of the instruction in hand, of rows, of entries and of names mentioned.
abbrev pub held : Draft → (rows entries names op target left right sources number own one other mentions : ℕ) → Draft
held s w e n op t l r k v o a b m =
    record {
      functions = s.functions;
      head = s.head;
      blocks = record { closed = s.blocks.closed; rows = w; first = s.blocks.first; entries = e; names = n };
      parts = record { op = op; target = t; left = l; right = r; sources = k; number = v; entries = o; one = a; other = b; mentions = m };
    }

pub bounded : {s : Draft} → Bounded s → {w e n op t l r k v o a b m : ℕ} → s.blocks.rows ≤ w → w ≤ max_rows → e ≤ max_entries → n ≤ max_names → op < 256 → t < 256
    → l < 256 → r < 256 → o ≤ e → a ≤ max_names → b ≤ max_names → Bounded (held s w e n op t l r k v o a b m)
bounded h more bw be bn bop bt bl br bo ba bb =
    record {
      functions = h.functions;
      ssa = h.ssa;
      result = h.result;
      registers = h.registers;
      params = h.params;
      blocks = h.blocks;
      rows = bw;
      first = omega (arith, h.first);
      entries = be;
      names = bn;
      op = bop;
      target = bt;
      left = bl;
      right = br;
      own = bo;
      one = ba;
      other = bb;
    }

-- the numbers of names, by those that are kept
abbrev pub numbers_of : List Mention → List Mention → List ℕ
numbers_of ks ms = map (λ m. name_number ks m.name) ms

module _ {d : Draftᴸ} {s : Draft} (h : Counts d s) where
  pub sources_in : Firsts d.parts.sources s.parts.left s.parts.right s.parts.sources
  sources_in = record { first = h.parts.left; second = h.parts.right; count = h.parts.sources }

  pub mentions_in_law : Firsts (numbers_of (kept d) d.parts.mentions) s.parts.one s.parts.other s.parts.mentions
  mentions_in_law =
      record {
        first = h.parts.one;
        second = h.parts.other;
        count = h.parts.mentions ∙ ap (λ (n : ℕ). min n 2) (sym (length-map d.parts.mentions (λ m. name_number (kept d) m.name)));
      }

  -- other rows and parts, the rest as it was
  module _ (u : OpenBlock) (x : Parts) where
    abbrev after : Draftᴸ
    after = draft_of d.functions d.function d.blocks u x

    pub counted : {w e n op t l r k v o a b m : ℕ} → w ≡ length (open_rows after) → e ≡ phi_entries after → n ≡ length (kept after) → op ≡ x.op → t ≡ x.target
        → Firsts x.sources l r k → v ≡ x.number → o ≡ length x.entries → Firsts (numbers_of (kept after) x.mentions) a b m
        → Counts after (held s w e n op t l r k v o a b m)
    counted cw ce cn cop ct cs cv co cm =
        record {
          functions = h.functions;
          head = record { ssa = h.head.ssa; result = h.head.result; params = h.head.params; registers = h.head.registers };
          blocks = record { closed = h.blocks.closed; rows = cw; first = h.blocks.first; entries = ce; names = cn };
          parts =
              record {
                op = cop;
                target = ct;
                left = cs.first;
                right = cs.second;
                sources = cs.count;
                number = cv;
                entries = co;
                one = cm.first;
                other = cm.second;
                mentions = cm.count ∙ ap (λ (i : ℕ). min i 2) (length-map x.mentions (λ m. name_number (kept after) m.name));
              };
        }

-- an act on the instruction in hand declares nothing
pub same_names : (d : Draftᴸ) (u : OpenBlock) (x : Parts) → kept (draft_of d.functions d.function d.blocks u x) ≡ kept d
    → SameNames d (draft_of d.functions d.function d.blocks u x)
same_names d u x e = record { functions = refl; registers = refl; mentions = e }
