mod RouteExamples
