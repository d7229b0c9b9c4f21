use Rattle.std.proofs.Common.{◌≡◌, ◌∙◌, ◌++◌, ◌∷◌, [], ap, length, length-append, arith}
use Rattle.std.specs.Fmt.{decimal}
use Rattle.edge_text.proofs.Gathering.{buffers-more}
use Rattle.edge_text.proofs.Numbers.{digits_are_few, digits_at, row_of_two}
use Rattle.edge_text.proofs.edge_text.add_row.Goals as goal

pub add-requires-2 : goal.add-requires-2
add-requires-2 g c =
    let first : c.index-digits-i.result ≡ decimal c.args.i =
    c.index-digits-i.is ∙ digits_at c.args.digits.now c.args.i c.index-digits-i.result c.requires.digits c.requires.i_in in
    record {
      room =
          omega (
            arith,
            c.in_ok-make_room.ensures.room,
            digits_are_few c.args.i c.ranges.i.fits,
            ap length (rw first at c.add.ensures),
            length-append c.make_room.new.self (decimal c.args.i ++ 32 ∷ []),
            length-append (decimal c.args.i) (32 ∷ []),
          );
    }

pub returns-clause-all : goal.returns-clause-all
returns-clause-all g c =
    let first : c.index-digits-i.result ≡ decimal c.args.i =
    c.index-digits-i.is ∙ digits_at c.args.digits.now c.args.i c.index-digits-i.result c.requires.digits c.requires.i_in in
    let second : c.index-digits-j.result ≡ decimal c.args.j =
    c.index-digits-j.is ∙ digits_at c.args.digits.now c.args.j c.index-digits-j.result c.requires.digits c.requires.j_in in
    let added : c.add.new.self ≡ c.make_room.new.self ++ (decimal c.args.i ++ 32 ∷ []) = rw first at c.add.ensures in
    let both : c.add-2.new.self ≡ c.add.new.self ++ (decimal c.args.j ++ 10 ∷ []) = rw second at c.add-2.ensures in
    rw (both, added, row_of_two c.make_room.new.self (decimal c.args.i) (decimal c.args.j))
    (buffers-more _ _ _ _ _ c.in_ok-make_room.ensures.all)
