-- The fixed texts of a picture.
use Rattle.std.specs.Prelude.{ℕ, ◌++◌, List, codes}
use Rattle.gs_picture.specs.declared.pieces.Piece.{Piece}
use Rattle.gs_picture.specs.declared.pieces.Piece.TheVariants.{EdgeBegins, EdgeFrom, EdgeTo, PathEnds, DiscBegins, MarkPlace, DiscMark, DiscEnds, DotRadius, DotEnds, NameBegins, NameTurn, NameText, TextEnds, WordsAcross, WordsDown, TagEnds, LegendHead, LegendHeadEnds}
use Rattle.gs_picture.specs.declared.pieces.Part.{Part}
use Rattle.gs_picture.specs.declared.pieces.Part.TheVariants.{Opening, OpeningTall, ViewBox, ViewBoxTall, OpeningEnds, TitleBegins, Peers, Rounds, Messages, GroupBegins, GroupPlaced, GroupEnds, CrowdBegins, PictureEnds, ChartHead, ChartHeadEnds, MissedBegins, MissedOf, MissedEnds, LevelBegins, LevelLabel, LevelEnds, TickBegins, TickLabel, TickText, CourseBegins, CourseLine, CourseEnds, TableHead, TableHeadEnds, RowBegins, RowBar, RowBarTo, RowReached, RowShare, RowEnds}

-- in the circle and the legend
unfoldable pub piece : Piece → List ℕ
piece EdgeBegins = codes "<path class=\""
piece EdgeFrom = codes "\" d=\"M"
piece EdgeTo = codes "L"
piece PathEnds = codes "\"/>\n"
piece DiscBegins = codes "<g class=\"disc "
piece MarkPlace = codes "\" transform=\"translate("
piece DiscMark = codes ")\"><circle r=\"9\"/><text y=\"4\">"
piece DiscEnds = codes "</text></g>\n"
piece DotRadius = codes ")\"><circle r=\""
piece DotEnds = codes "\"/></g>\n"
piece NameBegins = codes "<text class=\"name "
piece NameTurn = codes ") rotate("
piece NameText = codes ")\" y=\"4\">"
piece TextEnds = codes "</text>\n"
piece WordsAcross = codes "<text x=\""
piece WordsDown = codes "\" y=\""
piece TagEnds = codes "\">"
piece LegendHead = codes "<text class=\"head\" x=\"60\" y=\"590\">Each disc is a peer, by the lowest score that a neighbour"
piece LegendHeadEnds = codes " gives it at the end</text>\n"

-- around the circle, in the chart, and next to it
unfoldable pub part : Part → List ℕ
part Opening = codes "<svg xmlns=\"http://www.w3.org/2000/svg\" width=\""
part OpeningTall = codes "\" height=\""
part ViewBox = codes "\" viewBox=\"0 0 "
part ViewBoxTall = codes " "
part OpeningEnds = codes "\">\n"
part TitleBegins = codes "<text class=\"title middle\" x=\"460\" y=\"32\">Topic "
part Peers = codes "</text>\n<text class=\"middle\" x=\"460\" y=\"52\">peers: "
part Rounds = codes ", rounds: 0 to "
part Messages = codes ", messages drawn: "
part GroupBegins = codes "<g transform=\"translate(0 "
part GroupPlaced = codes ")\">\n"
part GroupEnds = codes "</g>\n"
part CrowdBegins =
    codes "<style>\n.crowd .disc circle{stroke-width:.5}\n.crowd path{marker-end:none}\n"
    ++ codes ".hundreds path{stroke-opacity:.4}\n.thousands path{stroke-opacity:.05}\n.bar{stroke-width:9}\n</style>\n"
    ++ codes "<g class=\"crowd "
part PictureEnds = codes "</g>\n</svg>\n"
part ChartHead = codes "<text class=\"head\" x=\"60\" y=\"700\">Share of the subscribers"
part ChartHeadEnds = codes " that each message reached</text>\n"
part MissedBegins = codes "<text class=\"end\" x=\"860\" y=\"722\">missed: "
part MissedOf = codes " of "
part MissedEnds = codes " pairs of a message and a subscriber</text>\n"
part LevelBegins = codes "<path class=\"grid\" d=\"M60 "
part LevelLabel = codes "H860\"/><text class=\"end\" x=\"52\" y=\""
part LevelEnds = codes "%</text>\n"
part TickBegins = codes "<path class=\"grid\" d=\"M"
part TickLabel = codes " 740V940\"/><text class=\"middle\" x=\""
part TickText = codes "\" y=\"958\">"
part CourseBegins = codes "<path class=\"course "
part CourseLine = codes "\" d=\"M60 940"
part CourseEnds = codes "H860\"/>\n"
part TableHead = codes "<text class=\"head\" x=\"900\" y=\""
part TableHeadEnds = codes "\">Pairs reached within a number of rounds</text>\n"
part RowBegins = codes "<text class=\"end\" x=\"950\" y=\""
part RowBar = codes "</text><path class=\"course bar\" d=\"M960 "
part RowBarTo = codes "h"
part RowReached = codes "\"/><text x=\"1070\" y=\""
part RowShare = codes " ("
part RowEnds = codes "%)</text>\n"

-- the rest of the legend, the words at the axes of the chart, and the style
unfoldable pub legend_words : List ℕ
legend_words =
    codes "<g class=\"disc off\" transform=\"translate(69 660)\"><circle r=\"9\"/></g><text x=\"85\" y=\"664\">"
    ++ codes "hollow: not subscribed to the topic</text>\n"
    ++ codes "<path class=\"both\" d=\"M316 660H340\"/><text x=\"345\" y=\"664\">"
    ++ codes "each has the other in its mesh</text>\n"
    ++ codes "<path class=\"tail\" d=\"M576 660H592\"/><path class=\"tip\" d=\"M592 655L602 660L592 665z\"/>"
    ++ codes "<text x=\"605\" y=\"664\">the tail alone has the head in its mesh</text>\n"

-- the same where there are too many peers for names: lines have no arrowheads, and discs no marks
unfoldable pub crowd_words : List ℕ
crowd_words =
    codes "<text class=\"middle\" x=\"460\" y=\"562\">Peers stand clockwise from the top in the order of the scenario, "
    ++ codes "without names. Lines are faint, so a dense place has many.</text>\n"
    ++ codes "<g class=\"disc off\" transform=\"translate(69 660)\"><circle r=\"9\"/></g><text x=\"85\" y=\"664\">"
    ++ codes "hollow: not subscribed to the topic</text>\n"
    ++ codes "<path class=\"both\" d=\"M316 660H340\"/><text x=\"345\" y=\"664\">"
    ++ codes "each has the other in its mesh</text>\n"
    ++ codes "<path class=\"tail\" d=\"M576 660H600\"/><text x=\"605\" y=\"664\">"
    ++ codes "only one has the other in its mesh</text>\n"

unfoldable pub chart_words : List ℕ
chart_words =
    codes "<path class=\"course few\" d=\"M60 718H84\"/><text x=\"90\" y=\"722\">thin: one message</text>\n"
    ++ codes "<path class=\"course all\" d=\"M222 718H246\"/><text x=\"252\" y=\"722\">thick: all messages together</text>\n"
    ++ codes "<text class=\"middle\" transform=\"translate(14 840) rotate(-90)\">of the subscribers</text>\n"
    ++ codes "<text class=\"middle\" x=\"460\" y=\"978\">rounds after the publication</text>\n"

unfoldable pub style_text : List ℕ
style_text =
    codes "<style>\ntext{font-family:sans-serif;font-size:12px;fill:#1f2328}\n.back{fill:#fff}\n"
    ++ codes ".title{font-size:18px;font-weight:bold}\n.head{font-weight:bold}\n.middle{text-anchor:middle}\n"
    ++ codes ".end{text-anchor:end}\n.name{font-family:monospace;font-size:11px}\npath{fill:none}\n"
    ++ codes ".both{stroke:#57606a;stroke-opacity:.55}\n.one,.tail{stroke:#bc4c00;stroke-width:1.5}\n"
    ++ codes ".one{marker-end:url(#head)}\n#head path,.tip{fill:#bc4c00}\n"
    ++ codes ".disc circle{stroke-width:2;stroke:#57606a}\n"
    ++ codes ".disc text{font-size:11px;font-weight:bold;text-anchor:middle;fill:#fff}\n"
    ++ codes ".fair circle{fill:#0969da;stroke:#0969da}\n.zero circle{fill:#e3b341;stroke:#9a6700}\n"
    ++ codes ".zero text{fill:#1f2328}\n.gossip circle{fill:#e16f24;stroke:#bc4c00}\n"
    ++ codes ".publish circle{fill:#cf222e;stroke:#cf222e}\n.graylist circle{fill:#6e40c9;stroke:#6e40c9}\n"
    ++ codes ".unscored circle{fill:#6e7781;stroke:#6e7781}\n.off circle{fill:#fff}\n.off text{fill:#1f2328}\n"
    ++ codes ".grid{stroke:#d0d7de}\n.course{stroke:#0969da;stroke-width:1.5}\n.some{stroke-opacity:.5}\n"
    ++ codes ".many{stroke-opacity:.2}\n.all{stroke:#1f2328;stroke-width:5;stroke-opacity:.6}\n"
    ++ codes "@media (prefers-color-scheme:dark){\ntext,.off text{fill:#e6edf3}\n"
    ++ codes ".back,.off circle{fill:#0d1117}\n.both{stroke:#9198a1}\n.grid{stroke:#30363d}\n"
    ++ codes ".course{stroke:#58a6ff}\n.all{stroke:#e6edf3}\n}\n</style>\n"
    ++ codes "<defs><marker id=\"head\" refX=\"18\" refY=\"5\" markerWidth=\"10\" markerHeight=\"10\" "
    ++ codes "markerUnits=\"userSpaceOnUse\" orient=\"auto\"><path d=\"M0 0L10 5L0 10z\"/></marker></defs>\n"
    ++ codes "<rect class=\"back\" width=\"100%\" height=\"100%\"/>\n"
