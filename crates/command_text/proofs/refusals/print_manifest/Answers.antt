use Rattle.command_text.proofs.refusals.print_manifest.Goals as goal

pub returns-in-Tree : goal.returns-in-Tree
returns-in-Tree g c = rw c.in-Tree.is c.print_tree.ensures

pub returns-in-Missing : goal.returns-in-Missing
returns-in-Missing g c = rw c.in-Missing.is c.print_about.ensures

pub returns-in-Twice : goal.returns-in-Twice
returns-in-Twice g c = rw c.in-Twice.is c.print_about-in-Twice.ensures

pub returns-in-BadValue : goal.returns-in-BadValue
returns-in-BadValue g c = rw c.in-BadValue.is c.print_about-in-BadValue.ensures

pub returns-in-Signed : goal.returns-in-Signed
returns-in-Signed g c = rw c.in-Signed.is c.print_pieces.ensures

pub returns-in-NoDigest : goal.returns-in-NoDigest
returns-in-NoDigest g c = rw c.in-NoDigest.is c.print_about-in-NoDigest.ensures

pub returns-in-BadName : goal.returns-in-BadName
returns-in-BadName g c = rw c.in-BadName.is c.print_about-in-BadName.ensures

pub returns-in-TwiceNamed : goal.returns-in-TwiceNamed
returns-in-TwiceNamed g c = rw c.in-TwiceNamed.is c.print_about-in-TwiceNamed.ensures

pub returns-in-MinimumAboveVersion : goal.returns-in-MinimumAboveVersion
returns-in-MinimumAboveVersion g c = rw c.in-MinimumAboveVersion.is c.print_versions.ensures

pub returns-in-OnlineOnly : goal.returns-in-OnlineOnly
returns-in-OnlineOnly g c = rw c.in-OnlineOnly.is c.print_pieces-in-OnlineOnly.ensures

pub returns-in-TooMany : goal.returns-in-TooMany
returns-in-TooMany g c = rw c.in-TooMany.is c.print_pieces-in-TooMany.ensures

pub returns-in-Memory : goal.returns-in-Memory
returns-in-Memory g c = rw c.in-Memory.is c.print_pieces-in-Memory.ensures
